-- A report over a whole plan is the run on the plan.
use Rattle.std.proofs.Common.{◌≡◌, ◌≢◌, ℕ, false, List, Option, Some, None, refl, sym, ap, ◌∙◌, IfSome}
use Rattle.bf_oid.specs.declared.object.Oid.{Oid}
use Rattle.bf_search.specs.declared.farm.Ending.{Ending}
use Rattle.bf_search.specs.declared.farm.Ending.TheVariants as endings
use Rattle.bf_search.specs.declared.outcomes.Outcome.{Outcome}
use Rattle.bf_search.specs.Farm.{Setting, end_of}
use Rattle.bf_search.specs.Outcomes.{outcomes_of_plan, outcomes_of_table, planned}
use Rattle.bf_search.specs.Run.{End, one_at_a_time}
use Rattle.bf_state.specs.Runs.{is_open, IsPartOf}
use Rattle.bf_state.specs.Session.{Session}
use Rattle.bf_state.proofs.Tables.{seq_ends_alike}
use Rattle.bf_farm.specs.declared.report.Report.{Report}
use Rattle.bf_farm.specs.Answering.{IsReport, run_on}
use Rattle.bf_farm.specs.Reports.{TableFollows}
use Rattle.bf_farm.proofs.Reporting.{end_reported}

planned_at : (plan : List Outcome) (p : ℕ) (o : Option Outcome) → ((outcome : Outcome) → o ≡ Some outcome → outcome ≡ planned plan p)
    → IfSome o (λ outcome. outcomes_of_plan plan p ≡ Some outcome)
planned_at plan p None follows = tt
planned_at plan p (Some outcome) follows = ap (λ (x : Outcome). Some x) (sym (follows outcome refl))

-- a table of a plan's outcomes is a part of the plan
part_of_plan : (plan : List Outcome) (table : List (Option Outcome)) → TableFollows (Some plan) table
    → IsPartOf (outcomes_of_table table) (outcomes_of_plan plan)
part_of_plan plan table follows = λ p. planned_at plan p (outcomes_of_table table p) (λ outcome e. follows p outcome e)

-- no run that has ended waits, unless a test failed
closed : (ending : Ending) → ((p : ℕ) → ending ≢ endings.TestFault p) → is_open (end_of ending) ≡ false
closed (endings.FirstBad p) unfailed = refl
closed (endings.OnlySkipped ps) unfailed = refl
closed (endings.MergeBaseBad p) unfailed = refl
closed (endings.GoodNotAncestor p) unfailed = refl
closed (endings.BothSides p) unfailed = refl
closed (endings.Aborted p outcome) unfailed = refl
closed endings.Leg unfailed = refl
closed (endings.TestFault p) unfailed = absurd (unfailed p refl)

pub on_the_plan : (setting : Setting) (first : Session) (names : List Oid) (plan : List Outcome) (report : Report)
    → IsReport setting first names report → TableFollows (Some plan) report.table → ((p : ℕ) → report.ending ≢ endings.TestFault p)
    → run_on setting report.used.items ≡ one_at_a_time setting.graph setting.start (outcomes_of_plan plan) setting.leg
on_the_plan setting first names plan report is follows unfailed =
    is.table
    ∙ sym (seq_ends_alike setting.graph setting.start (outcomes_of_table report.table) (outcomes_of_plan plan) setting.leg
    (part_of_plan plan report.table follows)
    (ap (λ (e : End). is_open e) (sym (end_reported setting first names report is)) ∙ closed report.ending unfailed))
