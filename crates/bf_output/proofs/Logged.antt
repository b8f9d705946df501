-- What `simulate` and `run` tell of a search that came to its end begins with its log.
use Rattle.std.proofs.Common.{◌≡◌, ℕ, Bool, true, false, List, [], ◌∷◌, ◌++◌, Option, Some, None, IfSome, Result, Ok, Err, IfErr, inl, inr, refl, sym, ap}
use Rattle.std.proofs.Common.{subst, ◌∙◌, append-nil, if◌then◌else◌}
use Rattle.std.specs.Result.{result_map_both}
use Rattle.bf_grammar.specs.Limits.{standard_limits}
use Rattle.bf_grammar.specs.declared.fault.StreamFault.{StreamFault}
use Rattle.bf_grammar.specs.declared.fault.StreamFault.TheVariants as stream
use Rattle.bf_grammar.specs.Forms.{◌>>=◌}
use Rattle.bf_history.specs.declared.fault.ImportFault.{ImportFault}
use Rattle.bf_history.specs.declared.fault.ImportFault.TheVariants as faults
use Rattle.bf_history.specs.Imports.{Loads}
use Rattle.bf_history.specs.Meanings.{History}
use Rattle.bf_replay.specs.Laws.{IsLoaded}
use Rattle.bf_log.specs.Replay.{Replayed, ReplayFault, Name, NotStarted, Term}
use Rattle.bf_names.specs.declared.fault.NameFault.{NameFault}
use Rattle.bf_names.specs.Names.{name, range}
use Rattle.bf_reading.specs.declared.line.LogLine.{LogLine}
use Rattle.bf_reading.specs.Reading.{read_log}
use Rattle.bf_replay.specs.Meaning.{replay_in}
use Rattle.bf_runs.specs.Legs.{Legs}
use Rattle.bf_search.specs.declared.outcomes.Outcome.{Outcome}
use Rattle.bf_search.specs.Outcomes.{Outcomes, outcomes_of_plan, outcomes_of_table}
use Rattle.bf_search.specs.Run.{one_at_a_time}
use Rattle.bf_search.specs.Run as searched
use Rattle.bf_io.specs.declared.shelf.LoadFault.{LoadFault}
use Rattle.bf_io.specs.declared.shelf.LoadFault.TheVariants.{Missing, TooLong, Failed, NoMemory}
use Rattle.bf_io.specs.declared.shelf.ShelfFile.{ShelfFile}
use Rattle.bf_words.specs.declared.request.Request.{Request}
use Rattle.bf_words.specs.declared.verb.Verb.{Verb}
use Rattle.bf_words.specs.declared.verb.Verb.TheVariants.{Simulate, Run, Next, Replay, Gen, Sample}
use Rattle.bf_words.specs.Words as asked
use Rattle.bf_words.specs.Words.{word_at}
use Rattle.bf_output.specs.Beginning.{Begun, named, named_if_given, gathered, one_named, meant, places_meant}
use Rattle.bf_output.specs.Beginning.{begun_behind, begun_by_words, begun_by, commits_of, with_ends, begun_with_skips, has_ends}
use Rattle.bf_output.specs.Logged.{EndsSearch, IsFileGiven, IsGivenBack, searches, AreOutcomesOf, IsLogged, told_as}
use Rattle.bf_output.specs.Logs.{file_or_refusal, replayed_or_refusal, replayed_log}
use Rattle.bf_output.specs.Output.{Given, IsOver, IsOverFile, IsOutput, IsOutputOf, IsSearched}
use Rattle.bf_output.specs.Inputs.{IsFiledIf, IsStreamed, IsToldFrom, IsToldOr, file_of}
use Rattle.bf_output.specs.Refusals.{name_refused, no_content, refused_at, waiting, refusal, too_large, log_refused, usage}
use Rattle.bf_output.specs.Returning.{FileGiven, HasTerms}
use Rattle.bf_output.specs.Simulate.{IsRunTold, IsSimulated, plan_of, ran, run_over}
use Rattle.bf_output.specs.Shown.{TesterShown}
use Rattle.bf_output.specs.Tested.{IsTestedRun, run_on, told_of_run}
use Rattle.bf_output.specs.Told.{Told}
use Rattle.bf_output.specs.Traces.{trace_lines, traced, traced_if}
use Rattle.bf_output.proofs.Returning.{given_back, gone_on_from_parts, gone_on_from_start, log_gives_back, goes_on_from_start, goes_on_from_parts}

-- ---- no refusal has the status of an end

abbrev IsNoEnd : Told → Type 0
IsNoEnd told = EndsSearch told.status → ⊥

abbrev NeverEnds : {X : Type 0} → Result X Told → Type 0
NeverEnds result = IfErr result IsNoEnd

next_ends : {X Y : Type 0} (a : Result X Told) (next : X → Result Y Told) → NeverEnds a → ((x : X) → NeverEnds (next x)) → NeverEnds (a >>= next)
next_ends (Ok x) next h k = k x
next_ends (Err told) next h k = h

name_ends : {X : Type 0} (word : ℕ) (r : Result X NameFault) → NeverEnds (result_map_both (λ (x : X). x) (name_refused word) r)
unfolding name_refused
name_ends word (Ok x) = tt
name_ends word (Err fault) = λ e. e

module _ (history : History) (words : List (List ℕ)) where
  given_ends : (given : Option ℕ) → NeverEnds (named_if_given history words given)
  given_ends None = tt
  given_ends (Some i) = next_ends (named history words i) (λ p. Ok (Some p)) (name_ends i (name history (word_at words i))) (λ p. tt)

  gathered_ends : (give : ℕ → Result (List ℕ) Told) → ((i : ℕ) → NeverEnds (give i)) → (is : List ℕ) → NeverEnds (gathered give is)
  unfolding gathered
  gathered_ends give h [] = tt
  gathered_ends give h (i ∷ is) =
      next_ends (give i) _ (h i) (λ xs. next_ends (gathered give is) _ (gathered_ends give h is) (λ ps. tt))

  all_ends : (is : List ℕ) → NeverEnds (gathered (one_named history words) is)
  all_ends is =
      gathered_ends (one_named history words)
      (λ i. next_ends (named history words i) (λ p. Ok (p ∷ [])) (name_ends i (name history (word_at words i))) (λ p. tt)) is

  meant_ends : (is : List ℕ) → NeverEnds (gathered (places_meant history words) is)
  meant_ends is =
      gathered_ends (places_meant history words)
      (λ i. next_ends (meant history words i) _ (name_ends i (range history (word_at words i))) (λ row. tt)) is

  words_end : (request : Request) → NeverEnds (begun_by_words request words history)
  unfolding begun_by_words
  words_end request =
      next_ends (named_if_given history words request.bad) _ (given_ends request.bad)
      (λ bad. next_ends (gathered (one_named history words) request.goods) _ (all_ends request.goods) (λ goods. tt))

file_ends : (file : Result (List ℕ) LoadFault) → NeverEnds (file_or_refusal file)
unfolding too_large
file_ends (Ok bytes) = tt
file_ends (Err Missing) = λ e. e
file_ends (Err TooLong) = λ e. e
file_ends (Err Failed) = λ e. e
file_ends (Err NoMemory) = λ e. e

lines_end : (read : Result (List LogLine) ℕ) → NeverEnds (result_map_both (λ (lines : List LogLine). lines) log_refused read)
unfolding log_refused
lines_end (Ok lines) = tt
lines_end (Err line) = λ e. e

replayed_ends : (r : Result Replayed (ReplayFault NameFault)) → NeverEnds (replayed_or_refusal r)
unfolding log_refused
replayed_ends (Ok replayed) = tt
replayed_ends (Err (Name line fault)) = λ e. e
replayed_ends (Err (NotStarted line)) = λ e. e
replayed_ends (Err (Term line)) = λ e. e

log_ends : (history : History) (file : Result (List ℕ) LoadFault) → NeverEnds (replayed_log history file >>= λ replayed. Ok (begun_behind replayed))
unfolding replayed_log
log_ends history file =
    next_ends (file_or_refusal file >>= λ bytes. result_map_both (λ (lines : List LogLine). lines) log_refused (read_log bytes)
    >>= λ lines. replayed_or_refusal (replay_in history lines)) _
    (next_ends (file_or_refusal file) _ (file_ends file)
    (λ bytes. next_ends (result_map_both (λ (lines : List LogLine). lines) log_refused (read_log bytes)) _ (lines_end (read_log bytes))
    (λ lines. replayed_ends (replay_in history lines))))
    (λ replayed. tt)

first_ends : (request : Request) (words : List (List ℕ)) (file : FileGiven) (history : History) → NeverEnds (begun_by request words file history)
first_ends request words None history = words_end history words request
first_ends request words (Some file) history = log_ends history file

both_end : (both : Bool) (first : Begun) (refusal : Told) → IsNoEnd refusal → NeverEnds (if both then Ok first else Err refusal)
both_end true first refusal h = tt
both_end false first refusal h = h

waiting_ends : (first : Begun) → NeverEnds (with_ends first)
unfolding waiting
waiting_ends first = both_end (has_ends first.search) first _ (λ e. e)

begun_ends : (request : Request) (words : List (List ℕ)) (file : FileGiven) (history : History) → NeverEnds (begun_with_skips request words file history)
unfolding begun_with_skips
begun_ends request words file history =
    next_ends (begun_by request words file history) _ (first_ends request words file history)
    (λ first. next_ends (gathered (places_meant history words) request.skips) _ (meant_ends history words request.skips)
    (λ ps. next_ends (with_ends first) _ (waiting_ends first) (λ whole. tt)))

stream_ends : (fault : StreamFault) → IsNoEnd (refusal (faults.Stream fault))
unfolding refused_at too_large
stream_ends (stream.Syntax line) = λ e. e
stream_ends (stream.Unsupported line) = λ e. e
stream_ends (stream.Truncated line) = λ e. e
stream_ends (stream.NoDone line) = λ e. e
stream_ends stream.Read = λ e. e
stream_ends (stream.TooLarge what) = λ e. e
stream_ends stream.NoMemory = λ e. e

import_ends : (fault : ImportFault) → IsNoEnd (refusal fault)
unfolding refused_at too_large no_content
import_ends (faults.Stream fault) = stream_ends fault
import_ends (faults.BadFrom line) = λ e. e
import_ends (faults.BadMark line) = λ e. e
import_ends (faults.BadPath line) = λ e. e
import_ends (faults.Unsupported line) = λ e. e
import_ends (faults.NoContent line) = λ e. e
import_ends (faults.TooLarge what) = λ e. e
import_ends faults.NoMemory = λ e. e

-- ---- what is told of a run begins with its log, and how it ended

abbrev BeginsWith : Told → Told → Type 0
BeginsWith whole told = (told.status ≡ whole.status) × (rest : List ℕ) × (told.text ≡ whole.text ++ rest)

is_whole : (whole told : Told) → told ≡ whole → BeginsWith whole told
is_whole whole told is = (ap (λ (t : Told). t.status) is, [], ap (λ (t : Told). t.text) is ∙ sym (append-nil whole.text))

is_traced : (history : History) (legs : Legs) (whole told : Told) → told ≡ traced history legs whole → BeginsWith whole told
is_traced history legs whole told is =
    (ap (λ (t : Told). t.status) is, trace_lines (commits_of history) legs, ap (λ (t : Told). t.text) is)

run_begins : (is_asked : Bool) (request : Request) (plan : List Outcome) (history : History) (first : Begun) (told : Told)
    → IsRunTold is_asked request plan history first told
    → BeginsWith (ran history first (run_over history first plan)) told
run_begins false request plan history first told is = is_whole (ran history first (run_over history first plan)) told is
run_begins true request plan history first told is = is_traced history is.legs (ran history first (run_over history first plan)) told is.tells

simulated_begins : (request : Request) (words : List (List ℕ)) (history : History) (first : Begun) (told : Told) → EndsSearch told.status
    → IsSimulated request words history first told
    → BeginsWith (ran history first (run_over history first (plan_of request words))) told
simulated_begins request words history first told ends (inl is) = run_begins request.trace request (plan_of request words) history first told is
simulated_begins request words history first told ends (inr cut) = absurd (subst (λ (t : Told). EndsSearch t.status) cut ends)

traced_begins : (is_asked : Bool) (history : History) (first : Begun) (legs : Legs) (run : searched.Run) (told : Told)
    → told ≡ traced_if is_asked history legs (told_of_run history first run) → BeginsWith (told_of_run history first run) told
traced_begins false history first legs run told is = is_whole (told_of_run history first run) told is
traced_begins true history first legs run told is = is_traced history legs (told_of_run history first run) told is

-- a search on these outcomes, with whose log a text begins
abbrev Searched : Verb → Request → List (List ℕ) → TesterShown → History → Begun → Told → Type 0
Searched verb request words tested history first told =
    (known : Outcomes) × AreOutcomesOf verb request words tested history known
    × BeginsWith (told_as verb history first (one_at_a_time history.parents first.search known 0)) told

tested_begins : (request : Request) (words : List (List ℕ)) (tested : TesterShown) (history : History) (first : Begun) (told : Told)
    → IsTestedRun request tested history first told → Searched Run request words tested history first told
tested_begins request words tested history first told is = (
  outcomes_of_table is.table,
  (is.table, is.over.known, refl {a = outcomes_of_table is.table}),
  traced_begins request.trace history first is.legs (run_on history first is.table) told is.tells,
)

searched_begins : (verb : Verb) (request : Request) (words : List (List ℕ)) (tested : TesterShown) (history : History) (first : Begun) (told : Told)
    → EndsSearch told.status → IsSearched verb request words tested history first told
    → Searched verb request words tested history first told
searched_begins Simulate request words tested history first told ends is = (
  outcomes_of_plan (plan_of request words),
  refl {a = outcomes_of_plan (plan_of request words)},
  simulated_begins request words history first told ends is,
)
searched_begins Run request words tested history first told ends (inl is) = tested_begins request words tested history first told is
searched_begins Run request words tested history first told ends (inr (inl cut)) =
    absurd (subst (λ (t : Told). EndsSearch t.status) cut.tells ends)
searched_begins Run request words tested history first told ends (inr (inr lost)) =
    absurd (subst (λ (t : Told). EndsSearch t.status) lost.tells ends)
searched_begins Next request words tested history first told ends is = absurd is
searched_begins Replay request words tested history first told ends is = absurd is
searched_begins Gen request words tested history first told ends is = absurd is
searched_begins Sample request words tested history first told ends is = absurd is

-- what a search tells is told over a stream, and from where it begins
over_stream : (verb : Verb) (request : Request) (given : Given) (stream : Option (List ℕ)) (told : Told) → searches verb ≡ true
    → IsOutputOf verb request given stream told → IsStreamed (IsOver request given) stream told
over_stream Simulate request given stream told e is = is
over_stream Run request given stream told e is = is
over_stream Next request given stream told e is = absurd (cc)
over_stream Replay request given stream told e is = absurd (cc)
over_stream Gen request given stream told e is = absurd (cc)
over_stream Sample request given stream told e is = absurd (cc)

from_beginning : (verb : Verb) (request : Request) (words : List (List ℕ)) (tested : TesterShown) (file : FileGiven) (history : History) (told : Told)
    → searches verb ≡ true → IsOverFile verb request words tested file history told
    → IsToldFrom (IsSearched verb request words tested history) (begun_with_skips request words file history) told
from_beginning Simulate request words tested file history told e is = is
from_beginning Run request words tested file history told e is = is
from_beginning Next request words tested file history told e is = absurd (cc)
from_beginning Replay request words tested file history told e is = absurd (cc)
from_beginning Gen request words tested file history told e is = absurd (cc)
from_beginning Sample request words tested file history told e is = absurd (cc)

-- ---- the whole

module _ (request : Request) (words : List (List ℕ)) (read : asked.request words ≡ Ok request) (tested : TesterShown) (bytes : List ℕ)
    (told : Told) (ends : EndsSearch told.status) where
  returning : (file : FileGiven) (history : History) (first : Begun) → Loads bytes standard_limits (Ok history)
      → begun_with_skips request words file history ≡ Ok first
      → Searched request.verb request words tested history first told
      → IsLogged request words tested file bytes told
  returning file history first loads begins (known, outcomes, (status, rest, is)) = record {
    history = history;
    loads = loads;
    first = first;
    begins = begins;
    known = known;
    outcomes = outcomes;
    is = record {
      status = status;
      rest = rest;
      printed = is;
      gives_back = log_gives_back request words file history first known None read loaded begins;
      from_start = λ none. goes_on_from_start request words history first known read loaded (by_words none);
      from_parts = λ none. goes_on_from_parts request words history first known read loaded (by_words none);
    };
  }
    where
      loaded : IsLoaded history
      loaded = (standard_limits, loads.0, loads.1, sym loads.3)

      by_words : file ≡ None → begun_with_skips request words None history ≡ Ok first
      by_words none = subst (λ (f : FileGiven). begun_with_skips request words f history ≡ Ok first) none begins

  from_search : (file : FileGiven) (history : History) (begun : Result Begun Told) → begun_with_skips request words file history ≡ begun
      → Loads bytes standard_limits (Ok history) → IsToldFrom (IsSearched request.verb request words tested history) begun told
      → IsLogged request words tested file bytes told
  from_search file history (Err refused) e loads is =
      absurd (subst NeverEnds e (begun_ends request words file history) (subst (λ (t : Told). EndsSearch t.status) is ends))
  from_search file history (Ok first) e loads is =
      returning file history first loads e (searched_begins request.verb request words tested history first told ends is)

  from_log : (files : Option (List ShelfFile)) (history : History) (file : FileGiven) (replay : Option ℕ) → IsFileGiven replay words files file
      → IsFiledIf (λ f t. IsOverFile request.verb request words tested f history t) words replay files told
      → IsOverFile request.verb request words tested file history told
  from_log files history file None none is =
      subst (λ (f : FileGiven). IsOverFile request.verb request words tested f history told) (sym none) is
  from_log files history file (Some i) (all, shown, found) (given, at, is) =
      let same : given ≡ file_of words i all =
      subst (λ (o : Option (List ShelfFile)). IfSome o (λ fs. given ≡ file_of words i fs)) shown at in
      subst (λ (f : FileGiven). IsOverFile request.verb request words tested f history told) (ap (λ (f : Result (List ℕ) LoadFault). Some f) same ∙ sym found) is

  from_loaded : (files : Option (List ShelfFile)) (file : FileGiven) → IsFileGiven request.replay words files file → searches request.verb ≡ true
      → (result : Result History ImportFault) → Loads bytes standard_limits result
      → IsToldOr refusal (IsOver request (record { words = words; files = files; tested = tested })) result told
      → IsLogged request words tested file bytes told
  from_loaded files file given_so does (Err fault) loads is =
      absurd (import_ends fault (subst (λ (t : Told). EndsSearch t.status) is ends))
  from_loaded files file given_so does (Ok history) loads is =
      from_search file history (begun_with_skips request words file history) refl loads
      (from_beginning request.verb request words tested file history told does (from_log files history file request.replay given_so is))

-- what a command tells of a search that came to its end
pub logged : (given : Given) (bytes : List ℕ) (file : FileGiven) (request : Request) (told : Told) → asked.request given.words ≡ Ok request
    → searches request.verb ≡ true → IsFileGiven request.replay given.words given.files file → EndsSearch told.status
    → IsOutput given (Some bytes) told → IsLogged request given.words given.tested file bytes told
logged given bytes file request told read does given_so ends is =
    let output : IsOutputOf request.verb request given (Some bytes) told =
    subst (λ (r : Result Request ℕ). IsToldOr usage (λ (q : Request) (t : Told). IsOutputOf q.verb q given (Some bytes) t) r told) read is in
    let over : IsStreamed (IsOver request given) (Some bytes) told = over_stream request.verb request given (Some bytes) told does output in
    from_loaded request given.words read given.tested bytes told ends given.files file given_so does over.0 over.1 over.2

-- ---- every run that tests tell

pub given_back_told : (request : Request) (words : List (List ℕ)) (tested : TesterShown) (file : FileGiven) (history : History) (first : Begun) (told : Told)
    → HasTerms request → IsLoaded history → begun_with_skips request words file history ≡ Ok first → IsTestedRun request tested history first told
    → IsGivenBack tested file history first told
given_back_told request words tested file history first told terms loaded begins is =
    let known = outcomes_of_table is.table in
    let begun = traced_begins request.trace history first is.legs (run_on history first is.table) told is.tells in
    record {
      table = is.table;
      known = is.over.known;
      is = record {
        status = begun.0;
        rest = begun.1;
        printed = begun.2;
        gives_back = given_back request words file history first known None terms loaded begins;
        from_start = λ none. gone_on_from_start request words history first known terms loaded (by_words none);
        from_parts = λ none. gone_on_from_parts request words history first known terms loaded (by_words none);
      };
    }
  where
    by_words : file ≡ None → begun_with_skips request words None history ≡ Ok first
    by_words none = subst (λ (f : FileGiven). begun_with_skips request words f history ≡ Ok first) none begins
