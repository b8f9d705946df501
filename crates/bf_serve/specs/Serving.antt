-- The server: what it replies to each request, and what it leaves. It is a recursion over the lines of the requests, from
-- the searches that were begun, each with its farm machine, and knows of no text, device, thread or tree of guesses.
use Rattle.std.specs.Prelude.{ℕ, ◌+◌, ◌-◌, Bool, not, nat_lt, if◌then◌else◌, List, [], ◌∷◌, ◌++◌, drop, length, replicate, slice_get, slice_set, Option, Some, None, option_and_then, Result, Ok, Err}
use Rattle.std.specs.List.{flat_map, list_all}
use Rattle.std.specs.Option.{unwrap_or}
use Rattle.bf_cert.specs.declared.cert.Cert.{Cert}
use Rattle.bf_cert.specs.Certificates.{needed_parents}
use Rattle.bf_cert.specs.Lines.{cert_text}
use Rattle.bf_cert.specs.Made.{made_steps}
use Rattle.bf_history.specs.Meanings.{History, place_named}
use Rattle.bf_io.specs.declared.shelf.LoadFault.{LoadFault}
use Rattle.bf_io.specs.declared.shelf.ShelfFile.{ShelfFile}
use Rattle.bf_log.specs.Written.{known_after_all}
use Rattle.bf_many.specs.declared.answers.Held.{Held}
use Rattle.bf_many.specs.Many.{FarmMachine, held_by, is_busy, load}
use Rattle.bf_oid.specs.Object.{oid_of_hex}
use Rattle.bf_output.specs.Beginning.{Begun, commits_of}
use Rattle.bf_output.specs.Refusals.{usage}
use Rattle.bf_output.specs.Told.{Told}
use Rattle.bf_protocol.specs.declared.request.Asked.{Asked}
use Rattle.bf_protocol.specs.declared.request.Asked.TheVariants as asked
use Rattle.bf_protocol.specs.declared.request.Refusal.{Refusal}
use Rattle.bf_protocol.specs.declared.request.Refusal.TheVariants as why
use Rattle.bf_protocol.specs.Events.{Reply, Started, Test, Wait, Over, Done, WantedBy, Certified, events_text, reply_text}
use Rattle.bf_protocol.specs.Requests.{asked_by, refusal_line, words_in}
use Rattle.bf_search.specs.declared.asks.Ask.TheVariants.{FirstBad}
use Rattle.bf_search.specs.declared.farm.Event.{Event}
use Rattle.bf_search.specs.declared.farm.Event.TheVariants.{Claim as Claimed, Post as Posted, Give as Given}
use Rattle.bf_search.specs.declared.outcomes.Outcome.{Outcome}
use Rattle.bf_search.specs.Farm.{best_place, step}
use Rattle.bf_search.specs.Run.{Answered, End, Run}
use Rattle.bf_search.specs.State.{Search}
use Rattle.bf_state.specs.Runs.{is_open}
use Rattle.bf_terms.specs.Texts.{Commits, hex_of}
use Rattle.bf_words.specs.declared.request.Request.{Request}
use Rattle.bf_words.specs.Words.{word_at}
use Rattle.bf_serve.specs.declared.opening.Opening.{Opening}
use Rattle.bf_serve.specs.Begins.{begins_by, file_named_by, request_to_search, words_to_begin}
use Rattle.bf_serve.specs.Searches.{Searches, has_outcome, is_asked, is_tested, learned, no_search, read_by, run_of}
use Rattle.bf_serve.specs.Turns.{Turn, first_news, news_of, refused, told_on}

abbrev pub refused_as : Searches → Refusal → Turn
refused_as searches refusal = refused searches (refusal_line refusal)

-- a request that changed the machine of one search, by its index
abbrev pub changed : History → Searches → ℕ → Opening → FarmMachine → FarmMachine → Turn
changed history searches k o old new = record {
  news = news_of history (k + 1) o old new;
  reply = Done;
  searches = record searches {
    openings = slice_set searches.openings k (told_on o (run_of old) (run_of new));
    machines = slice_set searches.machines k new;
  };
}

-- a machine behind an event, which is legal
abbrev pub stepped : FarmMachine → Event → FarmMachine
stepped m event = record m { farm = unwrap_or (step m.setting m.farm event) m.farm }

-- ---- words

abbrev pub with_words : List (List ℕ) → List (List ℕ) → List (List ℕ)
with_words pending [] = []
with_words pending (word ∷ words) = pending ++ word ∷ words

-- words for the next search; at most so many stand
abbrev pub words_turn : Searches → List (List ℕ) → Turn
words_turn searches words =
    if nat_lt 1000000 (length searches.pending + length words)
    then refused_as searches why.TooManyWords
    else record { news = []; reply = Done; searches = record searches { pending = with_words searches.pending words } }

-- ---- search

-- what is kept of a beginning, once the log has the lines of the run too
abbrev pub opening_of : Bool → Begun → Run → Opening
opening_of is_lenient first run = record {
  terms = first.sides;
  known = known_after_all first.known (first.entries ++ run.entries);
  lenient = is_lenient;
}

-- a search at its start: no outcome is known, and no claim stands
abbrev pub machine_at_start : List (List ℕ) → Search → FarmMachine
machine_at_start graph s = record {
  setting = record { graph = graph; start = s; leg = 0 };
  farm = record { table = replicate (length graph) None; claims = [] };
}

-- a search that begins takes the words that stand
abbrev pub begun : History → Searches → Bool → Begun → Turn
begun history searches is_lenient first =
    let s = length searches.machines + 1 in
    let m = machine_at_start history.parents first.search in
    record {
      news = first_news history s first m;
      reply = Started s;
      searches = record {
        openings = searches.openings ++ opening_of is_lenient first (run_of m) ∷ [];
        machines = searches.machines ++ m ∷ [];
        pending = [];
      };
    }

abbrev pub begun_or_refused : History → Searches → Bool → Result Begun Told → Turn
begun_or_refused history searches is_lenient (Ok first) = begun history searches is_lenient first
begun_or_refused history searches is_lenient (Err told) = refused searches told.text

abbrev pub begun_as : History → Result (List ℕ) LoadFault → Searches → List (List ℕ) → Result Request ℕ → Turn
begun_as history file searches words (Err word) = refused searches (usage word).text
begun_as history file searches words (Ok asks) =
    begun_or_refused history searches asks.lenient (begins_by history file words asks)

abbrev pub begun_by : History → Result (List ℕ) LoadFault → Searches → List (List ℕ) → Turn
begun_by history file searches words = begun_as history file searches words (request_to_search words)

-- there are at most 64 searches
abbrev pub search_turn : History → Result (List ℕ) LoadFault → Searches → List (List ℕ) → Turn
search_turn history file searches words =
    if nat_lt (length searches.machines) 64
    then begun_by history file searches (words_to_begin searches.pending words)
    else refused_as searches why.TooManySearches

-- ---- pick

-- a search that has an open place, and the place
pub record Task : Type 0 where
  pub search : ℕ
  pub own : FarmMachine
  pub place : ℕ

abbrev pub task_at : ℕ → FarmMachine → Option ℕ → Option Task
task_at k m None = None
task_at k m (Some p) = Some (record { search = k; own = m; place = p })

-- of two the one whose search has fewer claims, or else the first
abbrev pub fewer : Option Task → Option Task → Option Task
fewer None other = other
fewer (Some a) None = Some a
fewer (Some a) (Some b) = if nat_lt (load b.own) (load a.own) then Some b else Some a

-- The next task: of the searches with an open place the one with the fewest claims, the earliest of these, and there the best
-- open place. The searches are counted from this number on.
abbrev pub task_from : ℕ → List FarmMachine → Option Task
task_from k [] = None
task_from k (m ∷ machines) = fewer (task_at k m (best_place m.setting m.farm)) (task_from (k + 1) machines)

abbrev pub have_ended : List FarmMachine → Bool
have_ended machines = list_all (λ m. not (is_open (run_of m).end)) machines

-- the reply where there is no task
abbrev pub lull : List FarmMachine → Reply
lull machines = if have_ended machines then Over else Wait

-- a claim tells no news: its place is asked for
abbrev pub picked : Commits → Searches → ℕ → Option Task → Turn
picked commits searches worker None = record { news = []; reply = lull searches.machines; searches = searches }
picked commits searches worker (Some task) = record {
  news = [];
  reply = Test (task.search + 1) (hex_of commits task.place);
  searches = record searches { machines = slice_set searches.machines task.search (stepped task.own (Claimed worker task.place)) };
}

abbrev pub pick_turn : Commits → Searches → ℕ → Turn
pick_turn commits searches worker =
    if is_busy searches.machines worker
    then refused_as searches why.WorkerHasATest
    else picked commits searches worker (task_from 0 searches.machines)

-- ---- post and give

abbrev pub posted_in : History → Searches → ℕ → Held → Outcome → Option Opening → Option FarmMachine → Turn
posted_in history searches worker held outcome (Some o) (Some m) =
    changed history searches held.search o m (stepped m (Posted worker held.place (read_by o outcome)))
posted_in history searches worker held outcome other another = refused_as searches why.WorkerHasNoTest

-- the worker is looked at before the outcome
abbrev pub posted_as : History → Searches → ℕ → Held → Result Outcome Refusal → Turn
posted_as history searches worker held (Err refusal) = refused_as searches refusal
posted_as history searches worker held (Ok outcome) =
    posted_in history searches worker held outcome
    (slice_get searches.openings held.search) (slice_get searches.machines held.search)

abbrev pub posted : History → Searches → ℕ → Result Outcome Refusal → Option Held → Turn
posted history searches worker outcome None = refused_as searches why.WorkerHasNoTest
posted history searches worker outcome (Some held) = posted_as history searches worker held outcome

abbrev pub post_turn : History → Searches → ℕ → Result Outcome Refusal → Turn
post_turn history searches worker outcome = posted history searches worker outcome (held_by searches.machines worker)

abbrev pub given_in : History → Searches → ℕ → Held → Option Opening → Option FarmMachine → Turn
given_in history searches worker held (Some o) (Some m) =
    changed history searches held.search o m (stepped m (Given worker held.place))
given_in history searches worker held other another = refused_as searches why.WorkerHasNoTest

abbrev pub given : History → Searches → ℕ → Option Held → Turn
given history searches worker None = refused_as searches why.WorkerHasNoTest
given history searches worker (Some held) =
    given_in history searches worker held
    (slice_get searches.openings held.search) (slice_get searches.machines held.search)

abbrev pub give_turn : History → Searches → ℕ → Turn
give_turn history searches worker = given history searches worker (held_by searches.machines worker)

-- ---- learn

-- the place of the commit that 40 hexadecimal digits name
abbrev pub place_of_commit : History → List ℕ → Option ℕ
place_of_commit history word = option_and_then (λ name. place_named history.names name) (oid_of_hex word)

-- an outcome of a commit that has none, and that no worker tests
abbrev pub learned_of : History → Searches → ℕ → ℕ → Outcome → Opening → FarmMachine → Turn
learned_of history searches k p outcome o m =
    if has_outcome m p then refused_as searches why.HasAnOutcome
    else if is_tested m p then refused_as searches why.IsUnderTest
    else changed history searches k o m (learned m p (read_by o outcome))

-- the commit is looked at before the outcome
abbrev pub learned_as : History → Searches → ℕ → Option ℕ → Result Outcome Refusal → Opening → FarmMachine → Turn
learned_as history searches k None outcome o m = refused_as searches why.NoSuchCommit
learned_as history searches k (Some p) (Err refusal) o m = refused_as searches refusal
learned_as history searches k (Some p) (Ok outcome) o m = learned_of history searches k p outcome o m

abbrev pub learned_in : History → Searches → ℕ → Option ℕ → Result Outcome Refusal → Option Opening → Option FarmMachine → Turn
learned_in history searches k place outcome (Some o) (Some m) = learned_as history searches k place outcome o m
learned_in history searches k place outcome other another = refused_as searches why.NoSuchSearch

-- the search is the one of this number, from 1 on
abbrev pub learn_turn : History → Searches → ℕ → List ℕ → Result Outcome Refusal → Turn
learn_turn history searches s commit outcome =
    learned_in history searches (s - 1) (place_of_commit history commit) outcome
    (slice_get searches.openings (s - 1)) (slice_get searches.machines (s - 1))

-- ---- wanted

-- the numbers of the searches some path of which asks for a place, counted from this one on
abbrev pub wanted_from : ℕ → List FarmMachine → ℕ → List ℕ
wanted_from s [] p = []
wanted_from s (m ∷ machines) p = if is_asked m p then s ∷ wanted_from (s + 1) machines p else wanted_from (s + 1) machines p

abbrev pub wanted_of : Searches → Option ℕ → Turn
wanted_of searches None = refused_as searches why.NoSuchCommit
wanted_of searches (Some p) = record { news = []; reply = WantedBy (wanted_from 1 searches.machines p); searches = searches }

abbrev pub wanted_turn : History → Searches → List ℕ → Turn
wanted_turn history searches commit = wanted_of searches (place_of_commit history commit)

-- ---- certificate

-- the certificate of a search, before its steps
abbrev pub cert_at : Search → Cert
cert_at s = record { bad = unwrap_or s.bad 0; first_parent = s.first_parent; goods = s.goods; steps = [] }

-- the certificate that is made of a search
abbrev pub made_cert : List (List ℕ) → Search → Cert
made_cert graph s = record (cert_at s) { steps = made_steps graph s.goods (needed_parents graph (cert_at s)) }

abbrev pub certified_at : History → Searches → ℕ → Search → End → Turn
certified_at history searches s search (Answered (FirstBad p)) = record {
  news = [];
  reply = Certified s (cert_text history.names (made_cert history.parents search));
  searches = searches;
}
certified_at history searches s search other = refused_as searches why.NoCertificate

abbrev pub certified_in : History → Searches → ℕ → Option FarmMachine → Turn
certified_in history searches s None = refused_as searches why.NoSuchSearch
certified_in history searches s (Some m) = certified_at history searches s (run_of m).search (run_of m).end

abbrev pub certificate_turn : History → Searches → ℕ → Turn
certificate_turn history searches s = certified_in history searches s (slice_get searches.machines (s - 1))

-- ---- the whole

abbrev pub turn_as : History → Result (List ℕ) LoadFault → Searches → List (List ℕ) → Result Asked Refusal → Turn
turn_as history file searches words (Err refusal) = refused_as searches refusal
turn_as history file searches words (Ok asked.Words) = words_turn searches (drop 1 words)
turn_as history file searches words (Ok asked.Search) = search_turn history file searches words
turn_as history file searches words (Ok (asked.Pick worker)) = pick_turn (commits_of history) searches worker
turn_as history file searches words (Ok (asked.Post worker outcome)) = post_turn history searches worker outcome
turn_as history file searches words (Ok (asked.Give worker)) = give_turn history searches worker
turn_as history file searches words (Ok (asked.Learn s outcome)) = learn_turn history searches s (word_at words 2) outcome
turn_as history file searches words (Ok asked.Wanted) = wanted_turn history searches (word_at words 1)
turn_as history file searches words (Ok (asked.Certificate s)) = certificate_turn history searches s

-- One request. Where it is a search that goes on from a log, the file is what the shelf gives for its name.
unfoldable pub turn : History → Result (List ℕ) LoadFault → Searches → List ℕ → Turn
turn history file searches line = turn_as history file searches (words_in line) (asked_by (words_in line))

-- the file that a request names, where these files stand
abbrev pub file_in : List ShelfFile → Searches → List ℕ → Result (List ℕ) LoadFault
file_in files searches line = file_named_by files (words_to_begin searches.pending (words_in line))

-- all requests, one after the other, beside these files
unfoldable pub served : History → List ShelfFile → Searches → List (List ℕ) → List Turn
served history files searches [] = []
served history files searches (line ∷ lines) =
    turn history (file_in files searches line) searches line
    ∷ served history files (turn history (file_in files searches line) searches line).searches lines

-- ---- the texts

abbrev pub turn_text : Turn → List ℕ
turn_text t = events_text t.news ++ reply_text t.reply

-- the output to these requests
abbrev pub output : History → List ShelfFile → List (List ℕ) → List ℕ
output history files lines = flat_map turn_text (served history files no_search lines)
