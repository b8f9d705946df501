-- Laws of the dialogue, as statements: `laws.rt` has each as the contract of a function that does nothing.
use Rattle.std.specs.Prelude.{◌≡◌, ◌↔◌, ℕ, ◌+◌, ◌<◌, ◌==◌, true, if◌then◌else◌, List, [], ◌∷◌, ◌++◌, map, Contains, Option, Some, None, Result, Ok, slice_get}
use Rattle.std.specs.List.{AllPairs, flat_map}
use Rattle.std.specs.Option.{option_map}
use Rattle.bf_history.specs.Meanings.{History}
use Rattle.bf_io.specs.declared.shelf.LoadFault.{LoadFault}
use Rattle.bf_io.specs.declared.shelf.ShelfFile.{ShelfFile}
use Rattle.bf_many.specs.Many.{FarmMachine, IsNext}
use Rattle.bf_output.specs.Beginning.{Begun, commits_of, log_on}
use Rattle.bf_output.specs.Simulate.{status_of_end}
use Rattle.bf_output.specs.Statuses.{number_of}
use Rattle.bf_protocol.specs.Events.{News, Log, Answer, Ended, Needless, Reply, Started}
use Rattle.bf_protocol.specs.Requests.{words_in}
use Rattle.bf_reading.specs.Reading.{lines_of}
use Rattle.bf_search.specs.declared.farm.Claim.{Claim}
use Rattle.bf_search.specs.Farm.{best_place}
use Rattle.bf_search.specs.Outcomes.{outcomes_of_table}
use Rattle.bf_search.specs.Run.{End, Run}
use Rattle.bf_spec.specs.Ways.{IsAsked}
use Rattle.bf_state.specs.Runs.{is_open}
use Rattle.bf_terms.specs.Texts.{Commits, Sides, answer_lines, hex_of}
use Rattle.bf_words.specs.declared.request.Request.{Request}
use Rattle.bf_serve.specs.declared.opening.Opening.{Opening}
use Rattle.bf_serve.specs.Begins.{begins_by, file_named_by, request_to_search, words_to_begin}
use Rattle.bf_serve.specs.Searches.{Searches, needless, run_of}
use Rattle.bf_serve.specs.Serving.{file_in, machine_at_start, opening_of, turn}
use Rattle.bf_serve.specs.Turns.{Turn}

-- a turn whose reply is a refusal changes nothing, and tells nothing
pub record ChangesNothing (searches : Searches) (t : Turn) : Type 0 where
  pub same : t.searches ≡ searches
  pub quiet : t.news ≡ []

-- the commit that a worker is given: that of the best open place of the search that is helped next
pub record IsBestTask (commits : Commits) (searches : Searches) (s : ℕ) (digits : List ℕ) : Type 0 where
  pub index : ℕ
  pub own : FarmMachine
  pub place : ℕ
  pub number : s ≡ index + 1
  pub at : slice_get searches.machines index ≡ Some own
  pub next : IsNext searches.machines index
  pub best : best_place own.setting own.farm ≡ Some place
  pub named : digits ≡ hex_of commits place

-- ---- which tests are asked for

-- The search waits for an outcome, and some path of known outcomes and of guesses asks for a place that has none.
pub record IsAskedIn (m : FarmMachine) (p : ℕ) : Type 0 where
  pub waits : is_open (run_of m).end ≡ true
  pub unknown : outcomes_of_table m.farm.table p ≡ None
  pub asked : IsAsked m.setting.graph (outcomes_of_table m.farm.table) (run_of m).search p

-- a worker whose commit no path asks for
pub record IsNeedlessIn (m : FarmMachine) (worker : ℕ) : Type 0 where
  pub claim : Claim
  pub among : Contains m.farm.claims claim
  pub by : claim.worker ≡ worker
  pub dropped : ¬ IsAskedIn m claim.place

-- these are, in ascending order, the workers whose commits no path asks for
pub record AreNeedlessIn (m : FarmMachine) (workers : List ℕ) : Type 0 where
  pub are : (worker : ℕ) → Contains workers worker ↔ IsNeedlessIn m worker
  pub ascend : AllPairs (λ a b. a < b) workers

-- ---- what was told

-- all that was told in these turns
abbrev pub told_in : List Turn → List News
told_in turns = flat_map (λ t. t.news) turns

-- what stands behind these turns
unfoldable pub left_by : Searches → List Turn → Searches
left_by searches [] = searches
left_by searches (t ∷ turns) = left_by t.searches turns

-- the lines of the log of a search
unfoldable pub logged : ℕ → List News → List (List ℕ)
logged s [] = []
logged s (Log k line ∷ news) = if k == s then line ∷ logged s news else logged s news
logged s (other ∷ news) = logged s news

-- what is told of a run: a line of its log, or of its answer, or its status
pub data Part : Type 0 where
  OfLog : List ℕ → Part
  OfAnswer : List ℕ → Part
  Status : ℕ → Part

-- what is told of the run of a search, in order
unfoldable pub parts_told : ℕ → List News → List Part
parts_told s [] = []
parts_told s (Log k line ∷ news) = if k == s then OfLog line ∷ parts_told s news else parts_told s news
parts_told s (Answer k line ∷ news) = if k == s then OfAnswer line ∷ parts_told s news else parts_told s news
parts_told s (Ended k status ∷ news) = if k == s then Status status ∷ parts_told s news else parts_told s news
parts_told s (other ∷ news) = parts_told s news

-- the last list of needless workers of a search, where it was this one before
unfoldable pub needless_told : ℕ → List ℕ → List News → List ℕ
needless_told s last [] = last
needless_told s last (Needless k workers ∷ news) = needless_told s (if k == s then workers else last) news
needless_told s last (other ∷ news) = needless_told s last news

-- ---- how a search began

-- the words with which a request began a search, where its reply says so
abbrev pub words_by : Searches → List (List ℕ) → Reply → List (List (List ℕ))
words_by searches words (Started s) = words_to_begin searches.pending words ∷ []
words_by searches words other = []

-- the words with which these requests began searches, in order
unfoldable pub words_begun : History → List ShelfFile → Searches → List (List ℕ) → List (List (List ℕ))
words_begun history files searches [] = []
words_begun history files searches (line ∷ lines) =
    let t = turn history (file_in files searches line) searches line in
    words_by searches (words_in line) t.reply ++ words_begun history files t.searches lines

-- The search of an index began with its words among those given and, where these name a file, with the log in it. Its
-- opening knows what its log told so far.
pub record HasBegun (history : History) (files : List ShelfFile) (given : List (List (List ℕ))) (k : ℕ) (o : Opening) (m : FarmMachine) : Type 0 where
  pub words : List (List ℕ)
  pub said : slice_get given k ≡ Some words
  pub asks : Request
  pub first : Begun
  pub reads : request_to_search words ≡ Ok asks
  pub begins : begins_by history (file_named_by files words) words asks ≡ Ok first
  pub setting : m.setting ≡ (machine_at_start history.parents first.search).setting
  pub opened : o ≡ opening_of asks.lenient first (run_of m)

-- the log that words name by its file
abbrev pub file_begun : List ShelfFile → List (List ℕ) → Request → Option (Result (List ℕ) LoadFault)
file_begun files words asks = option_map (λ i. file_named_by files words) asks.replay

-- two searches began with the same words and, where these name a file, with the same one
pub record BeganAlike (files others : List ShelfFile) (words more : List (List ℕ)) (asks other : Request) : Type 0 where
  pub words_are : words ≡ more
  pub file : file_begun files words asks ≡ file_begun others more other

-- the same outcomes are known in two searches
abbrev pub KnowTheSame : FarmMachine → FarmMachine → Type 0
KnowTheSame m n = (p : ℕ) → outcomes_of_table m.farm.table p ≡ outcomes_of_table n.farm.table p

-- ---- the log and the end

-- The lines that were told of the log of a search are the lines of the log of testing one commit at a time on the outcomes
-- that are in its table, behind the first lines with which its words began it.
pub record IsLogTold (history : History) (files : List ShelfFile) (given : List (List (List ℕ))) (news : List News) (k : ℕ) (o : Opening)
    (m : FarmMachine) : Type 0 where
  pub begun : HasBegun history files given k o m
  pub log : logged (k + 1) news ≡ lines_of (log_on history begun.first (run_of m).entries)

abbrev pub AreLogsTold : History → List ShelfFile → List (List (List ℕ)) → List News → Searches → Type 0
AreLogsTold history files given news searches =
    (k : ℕ) (m : FarmMachine) → slice_get searches.machines k ≡ Some m
    → (o : Opening) × (slice_get searches.openings k ≡ Some o) × IsLogTold history files given news k o m

-- the answer and the status of an end; a run that waits for an outcome has none
abbrev pub parts_of_end : Commits → Sides → End → List Part
parts_of_end commits sides end =
    if is_open end then []
    else map OfAnswer (lines_of (answer_lines commits sides end)) ++ Status (number_of (status_of_end end)) ∷ []

-- the log of a run, and its end behind
abbrev pub parts_of : History → Begun → Run → List Part
parts_of history first run =
    map OfLog (lines_of (log_on history first run.entries)) ++ parts_of_end (commits_of history) first.sides run.end

-- What was told of a search is the log of testing one commit at a time and, behind it, its answer and its status, once;
-- and no answer and no status where that waits for an outcome.
pub record IsEndTold (history : History) (files : List ShelfFile) (given : List (List (List ℕ))) (news : List News) (k : ℕ) (o : Opening)
    (m : FarmMachine) : Type 0 where
  pub begun : HasBegun history files given k o m
  pub parts : parts_told (k + 1) news ≡ parts_of history begun.first (run_of m)

abbrev pub AreEndsTold : History → List ShelfFile → List (List (List ℕ)) → List News → Searches → Type 0
AreEndsTold history files given news searches =
    (k : ℕ) (m : FarmMachine) → slice_get searches.machines k ≡ Some m
    → (o : Opening) × (slice_get searches.openings k ≡ Some o) × IsEndTold history files given news k o m

-- ---- the needless workers

-- the last list of needless workers that was told of each search, or none, has the workers whose commits no path asks for
abbrev pub AreNeedlessTold : List News → Searches → Type 0
AreNeedlessTold news searches =
    (k : ℕ) (m : FarmMachine) → slice_get searches.machines k ≡ Some m → needless_told (k + 1) [] news ≡ needless m
