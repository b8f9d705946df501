-- The command `simulate`: a search over a plan that is written as letters.
use Rattle.std.specs.Prelude.{◌≡◌, ◌⊎◌, ℕ, ◌≤◌, Bool, true, false, List, Option, Some, [], ◌++◌, map, unwrap_or}
use Rattle.bf_farm.specs.Reports.{TableFollows}
use Rattle.bf_history.specs.Meanings.{History}
use Rattle.bf_search.specs.declared.asks.Ask.{Ask}
use Rattle.bf_search.specs.declared.asks.Ask.TheVariants as ask
use Rattle.bf_search.specs.declared.outcomes.Outcome.{Outcome}
use Rattle.bf_search.specs.declared.outcomes.Outcome.TheVariants.{Exit}
use Rattle.bf_runs.specs.Legs.{Legs, AreLegs, AreTestsOf, all_of}
use Rattle.bf_search.specs.Outcomes.{lenient, outcome_of_letter, outcomes_of_plan, outcomes_of_table}
use Rattle.bf_search.specs.Run.{End, Answered, Leg, Open, Aborted, Run, one_at_a_time}
use Rattle.bf_terms.specs.Texts.{answer_lines}
use Rattle.bf_words.specs.declared.request.Request.{Request}
use Rattle.bf_words.specs.Words.{word_or}
use Rattle.bf_output.specs.declared.status.Status.{Status}
use Rattle.bf_output.specs.declared.status.Status.TheVariants as status
use Rattle.bf_output.specs.Beginning.{Begun, log_on, commits_of}
use Rattle.bf_output.specs.Told.{Told}
use Rattle.bf_output.specs.Traces.{course_of, traced}
use Rattle.bf_tester.specs.Plans.{read_as}

-- ---- the plan

-- the letter at an index gives the outcome of that place, as --lenient-exit has it read
abbrev pub plan_of : Request → List (List ℕ) → List Outcome
plan_of request words = map (λ letter. read_as request.lenient (unwrap_or (outcome_of_letter letter) (Exit 125))) (word_or [] words request.plan)

-- ---- the answer

abbrev pub status_of_ask : Ask → Status
status_of_ask ask.WaitBoth = status.Waiting
status_of_ask ask.WaitBad = status.Waiting
status_of_ask ask.WaitGood = status.Waiting
status_of_ask (ask.Test p) = status.Done
status_of_ask (ask.MergeBaseBad p) = status.MergeBaseBad
status_of_ask (ask.GoodNotAncestor p) = status.GoodNotAncestor
status_of_ask (ask.BothSides p) = status.BothSides
status_of_ask (ask.FirstBad p) = status.Done
status_of_ask (ask.OnlySkipped ps) = status.OnlySkipped

abbrev pub status_of_end : End → Status
status_of_end (Answered a) = status_of_ask a
status_of_end Leg = status.Done
status_of_end (Open p) = status.Done
status_of_end (Aborted p outcome) = status.Aborted

-- a run behind a beginning: the log of all entries, and the answer
abbrev pub ran : History → Begun → Run → Told
ran history first run = record {
  status = status_of_end run.end;
  text = log_on history first run.entries ++ answer_lines (commits_of history) first.sides run.end;
}

abbrev pub run_over : History → Begun → List Outcome → Run
run_over history first plan = one_at_a_time history.parents first.search (outcomes_of_plan plan) 0

-- ---- a search over a plan, leg by leg and with several workers

-- The run is that of the plan, whatever the workers did: they posted the outcomes of the plan alone, and all that the run
-- asked for. Their events are told behind it; those of one worker are the tests of the run, in order.
pub record IsTracedRun (request : Request) (plan : List Outcome) (history : History) (first : Begun) (told : Told) : Type 0 where
  pub table : List (Option Outcome)
  pub legs : Legs
  pub are : AreLegs (course_of request history first) legs table
  pub planned : TableFollows (Some plan) table
  pub knows : one_at_a_time history.parents first.search (outcomes_of_table table) 0 ≡ run_over history first plan
  pub alone : request.workers ≤ 1 → AreTestsOf (run_over history first plan) (all_of legs)
  pub tells : told ≡ traced history legs (ran history first (run_over history first plan))

abbrev pub IsRunTold : Bool → Request → List Outcome → History → Begun → Told → Type 0
IsRunTold false request plan history first told = told ≡ ran history first (run_over history first plan)
IsRunTold true request plan history first told = IsTracedRun request plan history first told

-- a run that a write or want of memory cut short after a leg, with its status: its log was due
abbrev pub cut_short : Status → History → Begun → Run → Told
cut_short by history first run = record { status = by; text = log_on history first run.entries }

abbrev pub IsSimulated : Request → List (List ℕ) → History → Begun → Told → Type 0
IsSimulated request words history first told =
    let plan = plan_of request words in
    IsRunTold request.trace request plan history first told ⊎ (told ≡ cut_short status.WriteFault history first (run_over history first plan))
