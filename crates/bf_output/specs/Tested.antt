-- A search whose commits are tested: what it answers by the answers that a tester gave.
use Rattle.std.specs.Prelude.{◌≡◌, ℕ, ◌≤◌, Bool, true, false, List, ◌++◌, map, Option, IfSome}
use Rattle.bf_farm.specs.Answering.{pair_of}
use Rattle.bf_history.specs.Meanings.{History}
use Rattle.bf_log.specs.Trace.{failed_test_line}
use Rattle.bf_runs.specs.Legs.{Legs, IsKnown, IsOver}
use Rattle.bf_search.specs.declared.outcomes.Outcome.{Outcome}
use Rattle.bf_search.specs.Outcomes.{outcomes_of_table}
use Rattle.bf_search.specs.Run.{End, Open, Run, one_at_a_time}
use Rattle.bf_state.specs.Runs.{GoesOn, is_open}
use Rattle.bf_tester.specs.declared.answer.Answer.{Answer}
use Rattle.bf_terms.specs.Texts.{Commits, Sides, answer_lines}
use Rattle.bf_words.specs.declared.request.Request.{Request}
use Rattle.bf_output.specs.declared.status.Status.{Status}
use Rattle.bf_output.specs.declared.status.Status.TheVariants as status
use Rattle.bf_output.specs.Beginning.{Begun, commits_of, log_on}
use Rattle.bf_output.specs.Shown.{TesterShown}
use Rattle.bf_output.specs.Simulate.{run_over, status_of_end, cut_short}
use Rattle.bf_output.specs.Told.{Told}
use Rattle.bf_output.specs.Traces.{course_of, traced_if}

-- the run on what is known
abbrev pub run_on : History → Begun → List (Option Outcome) → Run
run_on history first table = one_at_a_time history.parents first.search (outcomes_of_table table) 0

-- how a run ends: one that waits for an outcome ends with the fault of that test
abbrev pub status_at_end : End → Status
status_at_end (Open p) = status.TestFault p
status_at_end other = status_of_end other

abbrev pub lines_at_end : Commits → Sides → End → List ℕ
lines_at_end commits sides (Open p) = failed_test_line commits p
lines_at_end commits sides other = answer_lines commits sides other

-- the log so far, and how the run ended
abbrev pub told_of_run : History → Begun → Run → Told
told_of_run history first run = record {
  status = status_at_end run.end;
  text = log_on history first run.entries ++ lines_at_end (commits_of history) first.sides run.end;
}

-- a run on some of the outcomes of another: its entries are a front of the other's, and all of them where none was lacking
pub record IsFrontOf (run whole : Run) : Type 0 where
  pub begins : GoesOn run.entries whole.entries
  pub ended : is_open run.end ≡ false → run ≡ whole

-- where outcomes are told, a run is that on these, or a front of it
abbrev pub IsFrontIfTold : Option (List Outcome) → History → Begun → Run → Type 0
IsFrontIfTold told history first run = IfSome told (λ plan. IsFrontOf run (run_over history first plan))

-- What is known is answered by the tester, with the names of the commits. With one worker its answers are exactly those
-- that the run used, in order. A test whose answer never came to the tester is not seen here. The run on what is known is
-- told, or the events of its legs with it.
pub record IsTestedAs (IsTold : Legs → Run → Told → Type 0) (request : Request) (tested : TesterShown) (history : History)
    (first : Begun) (told : Told) : Type 0 where
  pub table : List (Option Outcome)
  pub legs : Legs
  pub over : IsOver (course_of request history first) tested.plan tested.answers table legs (run_on history first table)
  pub planned : IsFrontIfTold tested.plan history first (run_on history first table)
  pub tells : IsTold legs (run_on history first table) told

-- a run by its log and how it ended, and behind it the events of the workers where they are asked for
abbrev pub IsTestedRun : Request → TesterShown → History → Begun → Told → Type 0
IsTestedRun request tested history first told =
    IsTestedAs (λ legs run other. other ≡ traced_if request.trace history legs (told_of_run history first run)) request tested history first told

-- the answers are the first that a run used, in its order
pub record AreFirstUsed (answers : List Answer) (run : Run) : Type 0 where
  pub rest : List (ℕ × Outcome)
  pub begins : run.used ≡ map pair_of answers ++ rest

-- A search that a write or want of memory cut short after a leg: the log of the run on what its tester answered was due. Of one
-- worker's answers, those before a failed write are the first that this run uses.
pub record IsTestCut (by : Status) (request : Request) (tested : TesterShown) (history : History) (first : Begun) (cut : Told) : Type 0 where
  pub table : List (Option Outcome)
  pub known : IsKnown history.names tested.plan tested.answers table
  pub planned : IsFrontIfTold tested.plan history first (run_on history first table)
  pub alone : by ≡ status.WriteFault → request.workers ≤ 1 → AreFirstUsed tested.answers (run_on history first table)
  pub tells : cut ≡ cut_short by history first (run_on history first table)

-- whether a status says that a test could not be made
abbrev pub is_test_fault : Status → Bool
is_test_fault (status.TestFault place) = true
is_test_fault other = false
