-- What the steps of the code give, in the words of the definition.
use Rattle.std.specs.Prelude.{◌≡◌, ◌⊎◌, ℕ, ◌+◌, ◌<◌, ◌≤◌, ◌==◌, not, List, ◌++◌, filter, length, map, slice_set, All, IfSome, Option, None, Result, Ok, Err, ⊤}
use Rattle.std.specs.List.Sorted.{IsStrictlyIncreasing}
use Rattle.std.specs.Option.{unwrap_or}
use Rattle.bf_answers.specs.declared.answer.Stop.{Stop}
use Rattle.bf_answers.specs.declared.answer.Stop.TheVariants as stop
use Rattle.bf_answers.specs.declared.line.RequestLine.{RequestLine}
use Rattle.bf_answers.specs.declared.started.Beginning.{Beginning}
use Rattle.bf_answers.specs.Tellings.{begun_of, told_of}
use Rattle.bf_core.specs.Machine.{IsConsumed}
use Rattle.bf_graph.specs.Graph.{IsGraph}
use Rattle.bf_history.specs.Meanings.{History}
use Rattle.bf_io.specs.Causes.{Rose}
use Rattle.bf_io.specs.declared.shelf.LoadFault.{LoadFault}
use Rattle.bf_io.specs.declared.shelf.LoadFault.TheVariants.{Failed}
use Rattle.bf_io.specs.declared.shelf.ShelfFile.{ShelfFile}
use Rattle.bf_many.specs.Cores.{AreWithdrawnIn, machines_of}
use Rattle.bf_many.specs.Many.{FarmMachine}
use Rattle.bf_output.specs.Beginning.{Begun}
use Rattle.bf_output.specs.Inputs.{file_of}
use Rattle.bf_output.specs.Told.{Told}
use Rattle.bf_protocol.specs.Events.{Reply, events_text}
use Rattle.bf_protocol.specs.Events as replies
use Rattle.bf_protocol.specs.Requests.{words_in}
use Rattle.bf_search.specs.declared.entries.Entry.{Entry}
use Rattle.bf_search.specs.Outcomes.{outcomes_of_table}
use Rattle.bf_search.specs.State.{IsSearchOver}
use Rattle.bf_state.specs.Runs.{IsPartOf, is_open}
use Rattle.bf_words.specs.declared.request.Request.{Request}
use Rattle.bf_serve.specs.Begins.{begins_by, file_named_by, words_to_begin}
use Rattle.bf_serve.specs.declared.standing.Progress.{Progress}
use Rattle.bf_serve.specs.declared.opening.Opening.{Opening}
use Rattle.bf_serve.specs.declared.remaining.Remaining.{Remaining}
use Rattle.bf_serve.specs.declared.session.Lull.{Lull}
use Rattle.bf_serve.specs.declared.session.Lull.TheVariants.{Wait, Over}
use Rattle.bf_serve.specs.declared.session.Session.{Session}
use Rattle.bf_serve.specs.Searches.{Searches, left_in, needless, run_of}
use Rattle.bf_serve.specs.Serving.{begun_as, lull, opening_of, search_turn, task_from, turn, turn_text}
use Rattle.bf_serve.specs.Turns.{Turn, changed_needless, first_news, news_of, run_news, told_on}

-- ---- what a session keeps

-- a farm machine over this graph, without legs
pub record IsOver (graph : List (List ℕ)) (m : FarmMachine) : Type 0 where
  pub graph_is : m.setting.graph ≡ graph
  pub start : IsSearchOver graph m.setting.start
  pub no_leg : m.setting.leg ≡ 0
  pub places : length m.farm.table ≡ length graph

-- the other workers
abbrev pub others_than : ℕ → List ℕ → List ℕ
others_than worker workers = filter (λ other. not (other == worker)) workers

-- the reply of a lull
abbrev pub reply_of : Lull → Reply
reply_of Wait = replies.Wait
reply_of Over = replies.Over

-- none of these searches has an open place, and so a pick is replied to
pub record IsLullOf (machines : List FarmMachine) (l : Lull) : Type 0 where
  pub none : task_from 0 machines ≡ None
  pub reply : lull machines ≡ reply_of l

-- For each search the session remembers the workers whose commits no path asks for, and what is left; and where it remembers
-- that the last pick found nothing, none has an open place.
pub record IsServing (s : Session) : Type 0 where
  pub parents : IsGraph s.history.now.parents
  pub reach : s.reach.now ≡ s.history.now.parents
  pub few : length s.many ≤ 64
  pub words : length s.pending.items ≤ 1000000
  pub each : length s.openings.items ≡ length s.many
  pub consumed : All IsConsumed s.many
  pub over : All (IsOver s.history.now.parents) (machines_of s.many)
  pub needless : s.needless.items ≡ map needless (machines_of s.many)
  pub left : s.left.items ≡ map left_in (machines_of s.many)
  pub lull : IfSome s.lull (IsLullOf (machines_of s.many))

-- the searches of a session
abbrev pub searches_in : Session → Searches
searches_in s = record { openings = s.openings.items; machines = machines_of s.many; pending = s.pending.items }

-- a session served a request: what is told of it was written, and these are its searches then
pub record Serves (t : Turn) (old new : Session) (before after : List ℕ) : Type 0 where
  pub text : after ≡ before ++ turn_text t
  pub searches : searches_in new ≡ t.searches
  pub history : new.history.now ≡ old.history.now
  pub serving : IsServing new

-- Of what a shelf gives for the file that words name: where it tells its files, it is the file of that name, or the shelf
-- failed; and then its count of faults rose.
pub record IsFileOf (files : Option (List ShelfFile)) (before now : ℕ) (words : List (List ℕ)) (file : Result (List ℕ) LoadFault) : Type 0 where
  pub given : IfSome files (λ all. (file ≡ file_named_by all words) ⊎ (file ≡ Err Failed))
  pub failed : file ≡ Err Failed → Rose before now

-- a session answered a line: it served the request, with what the shelf gave for the name in it, where there is one
pub record Answers (files : Option (List ShelfFile)) (before now : ℕ) (line : List ℕ) (old new : Session) (text after : List ℕ) : Type 0 where
  pub file : Result (List ℕ) LoadFault
  pub from : IsFileOf files before now (words_to_begin old.pending.items (words_in line)) file
  pub serves : Serves (turn old.history.now file (searches_in old) line) old new text after

-- where a search stands before a request
pub record StandsAt (m : FarmMachine) (standing : Progress) : Type 0 where
  pub entries : standing.entries ≡ length (run_of m).entries
  pub left : standing.remaining ≡ left_in m
  pub waits : standing.is_open ≡ is_open (run_of m).end

-- a machine of the same search knows no less
pub record KnowsNoLess (old new : FarmMachine) : Type 0 where
  pub setting : new.setting ≡ old.setting
  pub outcomes : IsPartOf (outcomes_of_table old.farm.table) (outcomes_of_table new.farm.table)

-- what is told of the run of a search was written, what its log makes known was noted, and so much is left of it
pub record TellsRun (history : History) (s : ℕ) (old new : FarmMachine) (before after : Opening) (text now : List ℕ) (remaining : Remaining) : Type 0 where
  pub tells : now ≡ text ++ events_text (run_news history s before old new)
  pub opening : after ≡ told_on before (run_of old) (run_of new)
  pub left : remaining ≡ left_in new

-- a search that is opened so begins so, with these entries first
pub record StartsAs (o : Opening) (entries : List Entry) (first : Begun) : Type 0 where
  pub terms : o.terms ≡ first.sides
  pub known : o.known ≡ first.known
  pub entries_are : entries ≡ first.entries

-- what is told of a search that begins was written, what its log makes known was noted, and so much is left of it
pub record TellsBegun (history : History) (s : ℕ) (first : Begun) (m : FarmMachine) (before after : Opening) (text now : List ℕ) (remaining : Remaining) : Type 0 where
  pub tells : now ≡ text ++ events_text (first_news history s first m)
  pub opening : after ≡ opening_of before.lenient first (run_of m)
  pub left : remaining ≡ left_in m

-- What a session has while it tells of a search whose machine has changed: what it keeps but for the workers of this search
-- and the lull; and these are the workers, ascending, whose commits no path of it asks for now.
pub record CanTell (s : Session) (k : ℕ) (workers : List ℕ) : Type 0 where
  pub parents : IsGraph s.history.now.parents
  pub reach : s.reach.now ≡ s.history.now.parents
  pub few : length s.many ≤ 64
  pub each : length s.openings.items ≡ length s.many
  pub idle : length s.needless.items ≡ length s.many
  pub left : length s.left.items ≡ length s.many
  pub consumed : All IsConsumed s.many
  pub over : All (IsOver s.history.now.parents) (machines_of s.many)
  pub below : k < length s.many
  pub rising : IsStrictlyIncreasing workers
  pub withdrawn : AreWithdrawnIn s.many k workers

-- what a session remembers of the workers of a search was told where it has changed, and nothing else is another one
pub record Remembers (s new : Session) (k : ℕ) (before workers : List ℕ) (text now : List ℕ) : Type 0 where
  pub tells : now ≡ text ++ events_text (changed_needless (k + 1) before workers)
  pub needless : new.needless.items ≡ slice_set s.needless.items k workers
  pub left : new.left.items ≡ s.left.items
  pub lull : new.lull ≡ None
  pub many : new.many ≡ s.many
  pub openings : new.openings.items ≡ s.openings.items
  pub pending : new.pending.items ≡ s.pending.items
  pub history : new.history.now ≡ s.history.now
  pub reach : new.reach.now ≡ s.reach.now

-- what is told of a search whose machine has changed was written, and the session remembers it
pub record TellsChange (s new : Session) (k : ℕ) (o : Opening) (before after : FarmMachine) (text now : List ℕ) : Type 0 where
  pub tells : now ≡ text ++ events_text (news_of s.history.now (k + 1) o before after)
  pub openings : new.openings.items ≡ slice_set s.openings.items k (told_on o (run_of before) (run_of after))
  pub needless : new.needless.items ≡ slice_set s.needless.items k (needless after)
  pub left : new.left.items ≡ slice_set s.left.items k (left_in after)
  pub lull : new.lull ≡ None
  pub many : new.many ≡ s.many
  pub pending : new.pending.items ≡ s.pending.items
  pub history : new.history.now ≡ s.history.now
  pub reach : new.reach.now ≡ s.reach.now

-- Of what a shelf gives for the word of an index: where it tells its files, it is the file of that name, or the shelf failed;
-- and then its count of faults rose.
pub record IsFileAt (files : Option (List ShelfFile)) (before now : ℕ) (words : List (List ℕ)) (i : ℕ) (file : Result (List ℕ) LoadFault) : Type 0 where
  pub given : IfSome files (λ all. (file ≡ file_of words i all) ⊎ (file ≡ Err Failed))
  pub failed : file ≡ Err Failed → Rose before now

-- a search begins so, or is refused so, or memory ran out
abbrev pub Begins : Result Beginning Stop → Result Begun Told → Type 0
Begins (Ok first) meant = meant ≡ Ok (begun_of first)
Begins (Err (stop.Refused answer)) meant = meant ≡ Err (told_of answer)
Begins (Err stop.NoMemory) meant = ⊤

-- a search begins so by its words, or is refused, with what the shelf gave for the file that they name
pub record BeginsBy (files : Option (List ShelfFile)) (before now : ℕ) (history : History) (words : List (List ℕ)) (asks : Request) (result : Result Beginning Stop) : Type 0 where
  pub file : Result (List ℕ) LoadFault
  pub from : IsFileAt files before now words (unwrap_or asks.replay 0) file
  pub step : Begins result (begins_by history file words asks)

-- a session served a line that begins a search by these words, with what the shelf gave for the file that they name
pub record OpensBy (files : Option (List ShelfFile)) (before now : ℕ) (line : RequestLine) (old new : Session) (text after : List ℕ) : Type 0 where
  pub file : Result (List ℕ) LoadFault
  pub from : IsFileAt files before now line.words.now (unwrap_or line.request.now.replay 0) file
  pub serves : Serves (begun_as old.history.now file (searches_in old) line.words.now (Ok line.request.now)) old new text after

-- the same of the words of a request
pub record SearchesBy (files : Option (List ShelfFile)) (before now : ℕ) (words : List (List ℕ)) (old new : Session) (text after : List ℕ) : Type 0 where
  pub file : Result (List ℕ) LoadFault
  pub from : IsFileOf files before now (words_to_begin old.pending.items words) file
  pub serves : Serves (search_turn old.history.now file (searches_in old) words) old new text after
