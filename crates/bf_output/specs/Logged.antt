-- The log that `simulate` and `run` print of a search that came to its end, and what it gives back.
use Rattle.std.specs.Prelude.{◌≡◌, ℕ, Bool, true, false, List, ◌++◌, Option, Some, None, Ok}
use Rattle.bf_grammar.specs.Limits.{standard_limits}
use Rattle.bf_history.specs.Imports.{Loads}
use Rattle.bf_history.specs.Meanings.{History}
use Rattle.bf_replay.specs.Laws.{IsLoaded}
use Rattle.bf_runs.specs.Legs.{IsKnown}
use Rattle.bf_search.specs.declared.outcomes.Outcome.{Outcome}
use Rattle.bf_search.specs.Outcomes.{Outcomes, outcomes_of_plan, outcomes_of_table}
use Rattle.bf_search.specs.Run.{Run, one_at_a_time}
use Rattle.bf_io.specs.declared.shelf.ShelfFile.{ShelfFile}
use Rattle.bf_words.specs.declared.request.Request.{Request}
use Rattle.bf_words.specs.declared.verb.Verb.{Verb}
use Rattle.bf_words.specs.declared.verb.Verb.TheVariants as verb
use Rattle.bf_output.specs.declared.status.Status.{Status}
use Rattle.bf_output.specs.Beginning.{Begun, begun_with_skips}
use Rattle.bf_output.specs.Inputs.{file_of}
use Rattle.bf_output.specs.Returning.{FileGiven, LogGivesBack, GoesOnFromStart, GoesOnFromParts, HasTerms}
use Rattle.bf_output.specs.Simulate.{plan_of, ran}
use Rattle.bf_output.specs.Statuses.{Stage, Refused, Unread, Ended, Cut, stage_of}
use Rattle.bf_output.specs.Shown.{TesterShown}
use Rattle.bf_output.specs.Tested.{IsTestedRun, run_on, told_of_run}
use Rattle.bf_output.specs.Told.{Told}

-- the statuses with which a search ends that needs no test any more
abbrev pub EndsSearch : Status → Type 0
EndsSearch status = IsEnd (stage_of status)
  where
    IsEnd : Stage → Type 0
    IsEnd Refused = ⊥
    IsEnd Unread = ⊥
    IsEnd Ended = Unit {0}
    IsEnd Cut = ⊥

-- What the shelf gives for the word of --replay: nothing where the words have none, and else, where it tells its files,
-- the one of that name.
abbrev pub IsFileGiven : Option ℕ → List (List ℕ) → Option (List ShelfFile) → FileGiven → Type 0
IsFileGiven None words told file = file ≡ None
IsFileGiven (Some i) words told file = (files : List ShelfFile) × (told ≡ Some files) × (file ≡ Some (file_of words i files))

-- whether a command searches on the outcomes of a plan or of tests
abbrev pub searches : Verb → Bool
searches verb.Simulate = true
searches verb.Run = true
searches verb.Next = false
searches verb.Replay = false
searches verb.Gen = false
searches verb.Sample = false

-- the log of a run and how it ended: one over a plan never waits for a test
abbrev pub told_as : Verb → History → Begun → Run → Told
told_as verb.Run history first run = told_of_run history first run
told_as other history first run = ran history first run

-- The status is that of a run on these outcomes, and the text begins with its log and how it ended. The whole log gives the
-- state of that run back, and where no log is replayed the run goes on from its beginning and from the parts of its log.
pub record IsLogOf (command : Verb) (file : FileGiven) (history : History) (first : Begun) (known : Outcomes) (run : Run) (told : Told)
    : Type 0 where
  pub status : told.status ≡ (told_as command history first run).status
  pub rest : List ℕ
  pub printed : told.text ≡ (told_as command history first run).text ++ rest
  pub gives_back : LogGivesBack file history first run
  pub from_start : file ≡ None → GoesOnFromStart history first known run
  pub from_parts : file ≡ None → GoesOnFromParts history first known run

-- the outcomes of a search: those of the plan that the words write, or those that its tester answered
abbrev pub AreOutcomesOf : Verb → Request → List (List ℕ) → TesterShown → History → Outcomes → Type 0
AreOutcomesOf verb.Simulate request words tested history known = known ≡ outcomes_of_plan (plan_of request words)
AreOutcomesOf verb.Run request words tested history known =
    (table : List (Option Outcome)) × IsKnown history.names tested.plan tested.answers table × (known ≡ outcomes_of_table table)
AreOutcomesOf verb.Next request words tested history known = ⊥
AreOutcomesOf verb.Replay request words tested history known = ⊥
AreOutcomesOf verb.Gen request words tested history known = ⊥
AreOutcomesOf verb.Sample request words tested history known = ⊥

-- the search of these words, over the history of these bytes and behind this file, printed its log
pub record IsLogged (request : Request) (words : List (List ℕ)) (tested : TesterShown) (file : FileGiven) (bytes : List ℕ) (told : Told)
    : Type 0 where
  pub history : History
  pub loads : Loads bytes standard_limits (Ok history)
  pub first : Begun
  pub begins : begun_with_skips request words file history ≡ Ok first
  pub known : Outcomes
  pub outcomes : AreOutcomesOf request.verb request words tested history known
  pub is : IsLogOf request.verb file history first known (one_at_a_time history.parents first.search known 0) told

-- ---- every run that tests tell, whatever command stands before its words

-- a run is told whose log gives its state back
pub record IsGivenBack (tested : TesterShown) (file : FileGiven) (history : History) (first : Begun) (told : Told) : Type 0 where
  pub table : List (Option Outcome)
  pub known : IsKnown history.names tested.plan tested.answers table
  pub is : IsLogOf verb.Run file history first (outcomes_of_table table) (run_on history first table) told

-- The log that a run tells gives the state of the run back, and the run goes on from its beginning and from the parts of its log.
abbrev pub ToldRunsGiveBack : Type 0
ToldRunsGiveBack =
    (request : Request) (words : List (List ℕ)) (tested : TesterShown) (file : FileGiven) (history : History) (first : Begun) (told : Told)
    → HasTerms request
    → IsLoaded history
    → begun_with_skips request words file history ≡ Ok first
    → IsTestedRun request tested history first told
    → IsGivenBack tested file history first told
