-- The headline in short of what the program tells.
use Rattle.std.specs.Prelude.{◌≡◌, ◌⊎◌, ℕ, ◌≤◌, Bool, true, false, List, [], ◌++◌, map, Option, Some, Result, Ok, IfOk}
use Rattle.bf_history.specs.Meanings.{History}
use Rattle.bf_io.specs.declared.shelf.LoadFault.{LoadFault}
use Rattle.bf_replay.specs.Laws.{IsLoaded}
use Rattle.bf_runs.specs.Legs.{Legs, IsOver}
use Rattle.bf_search.specs.declared.outcomes.Outcome.{Outcome}
use Rattle.bf_search.specs.Run as search
use Rattle.bf_terms.specs.Texts.{answer_lines}
use Rattle.bf_words.specs.declared.request.Request.{Request}
use Rattle.bf_words.specs.declared.verb.Verb.{Verb}
use Rattle.bf_words.specs.declared.verb.Verb.TheVariants.{Simulate, Run}
use Rattle.bf_words.specs.Words.{request}
use Rattle.bf_output.specs.declared.status.Status.{Status}
use Rattle.bf_output.specs.declared.status.Status.TheVariants.{WriteFault, NoMemory}
use Rattle.bf_output.specs.Beginning.{Begun, begun_with_skips, commits_of, log_on}
use Rattle.bf_output.specs.Logged.{searches}
use Rattle.bf_output.specs.Output.{Given, IsOutput, IsSearchTold}
use Rattle.bf_output.specs.Shown.{TesterShown}
use Rattle.bf_output.specs.Simulate.{IsSimulated, plan_of, status_of_end}
use Rattle.bf_output.specs.Tested.{IsFrontIfTold, IsTestedRun, run_on, status_at_end, lines_at_end}
use Rattle.bf_output.specs.Told.{Told}
use Rattle.bf_output.specs.Traces.{course_of}
use Rattle.bf_headline.specs.Headline as short
use Rattle.bf_headline.specs.Links.{standing_of, end_of, IsSame}

-- a search that has begun stands here
pub record StandsAt (first : Begun) (s : short.Standing) : Type 0 where
  pub bad : ℕ
  pub bad_is : first.search.bad ≡ Some bad
  pub is : s ≡ standing_of first.search bad

-- A run is told: its log, and how it ended. Where a trace is asked for, it stands behind.
pub record TellsRun (is_asked : Bool) (history : History) (first : Begun) (run : short.Run) (status : Status) (answer : List ℕ) (told : Told)
    : Type 0 where
  pub status_is : told.status ≡ status
  pub trace : List ℕ
  pub bare : is_asked ≡ false → trace ≡ []
  pub text : told.text ≡ (log_on history first run.entries ++ answer) ++ trace

-- the run of a search that was tested, whatever is told of it, is one commit after another
pub record IsTestedInShort (request : Request) (tested : TesterShown) (history : History) (first : Begun) (long : search.Run) : Type 0 where
  pub standing : short.Standing
  pub stands : StandsAt first standing
  pub run : short.Run
  pub is : short.IsOneAtATime history.parents history.names standing request.workers tested.plan tested.answers run
  pub same : IsSame long run

-- what `run` tells is one commit after another
pub record IsRunInShort (request : Request) (tested : TesterShown) (history : History) (first : Begun) (told : Told) : Type 0 where
  pub standing : short.Standing
  pub stands : StandsAt first standing
  pub run : short.Run
  pub is : short.IsOneAtATime history.parents history.names standing request.workers tested.plan tested.answers run
  pub tells : TellsRun request.trace history first run (status_at_end (end_of run.end))
      (lines_at_end (commits_of history) first.sides (end_of run.end)) told

-- A write or want of memory cut a run short after a leg: its log was due. With two workers, the headline says nothing of the order
-- of the answers; of one worker's, those before a failed write are the first that this run uses.
pub record IsCutInShort (by : Status) (request : Request) (tested : TesterShown) (history : History) (first : Begun) (told : Told) : Type 0 where
  pub standing : short.Standing
  pub stands : StandsAt first standing
  pub run : short.Run
  pub is : short.IsOneAtATime history.parents history.names standing 2 tested.plan tested.answers run
  pub alone : by ≡ WriteFault → request.workers ≤ 1 → (rest : List (ℕ × Outcome)) × (run.used ≡ map (λ a. (a.place, a.outcome)) tested.answers ++ rest)
  pub status_is : told.status ≡ by
  pub text : told.text ≡ log_on history first run.entries

-- a write failed behind the log of a run
pub record IsCutBehind (history : History) (first : Begun) (run : short.Run) (told : Told) : Type 0 where
  pub status_is : told.status ≡ WriteFault
  pub text : told.text ≡ log_on history first run.entries

-- so is what `simulate` tells, on the outcomes that its words write
pub record IsPlanInShort (request : Request) (words : List (List ℕ)) (history : History) (first : Begun) (told : Told) : Type 0 where
  pub standing : short.Standing
  pub stands : StandsAt first standing
  pub run : short.Run
  pub is : run ≡ short.one_at_a_time history.parents (short.planned (plan_of request words)) standing
  pub tells : TellsRun request.trace history first run (status_of_end (end_of run.end)) (answer_lines (commits_of history) first.sides (end_of run.end)) told
      ⊎ IsCutBehind history first run told

-- what a command tells of a search
abbrev pub IsSearchInShort : Verb → Request → List (List ℕ) → TesterShown → History → Begun → Told → Type 0
IsSearchInShort Simulate request words tested history first told = IsPlanInShort request words history first told
IsSearchInShort Run request words tested history first told =
    IsRunInShort request tested history first told
    ⊎ (IsCutInShort WriteFault request tested history first told ⊎ IsCutInShort NoMemory request tested history first told)
IsSearchInShort other request words tested history first told = ⊥

-- ---- laws

-- What `IsTestedAs` says of a run, whatever it says is told of it, makes it one commit after another.
abbrev pub TestsAreInShort : Type 0
TestsAreInShort =
    (request : Request) (words : List (List ℕ)) (file : Option (Result (List ℕ) LoadFault)) (tested : TesterShown) (history : History)
    (first : Begun) (table : List (Option Outcome)) (legs : Legs)
    → IsLoaded history
    → begun_with_skips request words file history ≡ Ok first
    → IsOver (course_of request history first) tested.plan tested.answers table legs (run_on history first table)
    → IsFrontIfTold tested.plan history first (run_on history first table)
    → IsTestedInShort request tested history first (run_on history first table)

abbrev pub RunsAreInShort : Type 0
RunsAreInShort =
    (request : Request) (words : List (List ℕ)) (file : Option (Result (List ℕ) LoadFault)) (tested : TesterShown) (history : History)
    (first : Begun) (told : Told)
    → IsLoaded history
    → begun_with_skips request words file history ≡ Ok first
    → IsTestedRun request tested history first told
    → IsRunInShort request tested history first told

abbrev pub PlansAreInShort : Type 0
PlansAreInShort =
    (request : Request) (words : List (List ℕ)) (file : Option (Result (List ℕ) LoadFault)) (history : History) (first : Begun) (told : Told)
    → IsLoaded history
    → begun_with_skips request words file history ≡ Ok first
    → IsSimulated request words history first told
    → IsPlanInShort request words history first told

-- Words that ask for a search are refused, or so is the stream or the log, or one commit after another is told.
abbrev pub SearchesAreInShort : Type 0
SearchesAreInShort =
    (given : Given) (bytes : List ℕ) (told : Told)
    → IfOk (request given.words) (λ asked. searches asked.verb ≡ true)
    → IsOutput given (Some bytes) told
    → IsSearchTold (λ asked history first other. IsSearchInShort asked.verb asked given.words given.tested history first other)
    (request given.words) given (Some bytes) told
