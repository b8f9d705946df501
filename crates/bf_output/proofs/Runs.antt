-- A run whose tests did not fail is the run on the outcomes that are told.
use Rattle.std.proofs.Common.{◌≡◌, ℕ, Bool, true, false, List, ◌++◌, Option, Some, None, IfSome, inl, refl, sym, ap, subst, ◌∙◌}
use Rattle.std.proofs.lemmas.Bool.{both_ways}
use Rattle.bf_farm.specs.Reports.{TableFollows}
use Rattle.bf_history.specs.Meanings.{History}
use Rattle.bf_search.specs.declared.outcomes.Outcome.{Outcome}
use Rattle.bf_search.specs.Outcomes.{outcomes_of_plan, outcomes_of_table, planned}
use Rattle.bf_search.specs.Run.{End, Answered, Leg, Open, Aborted, Run}
use Rattle.bf_runs.specs.Legs.{Legs, AreTestsOf, all_of}
use Rattle.bf_state.specs.Runs.{IsPartOf, is_open}
use Rattle.bf_state.proofs.Tables.{seq_ends_alike, seq_goes_on}
use Rattle.bf_words.specs.declared.request.Request.{Request}
use Rattle.bf_output.specs.Beginning.{Begun, commits_of, log_on}
use Rattle.bf_output.specs.Simulate.{IsRunTold, IsSimulated, plan_of, ran, run_over, status_of_end}
use Rattle.bf_terms.specs.Texts.{answer_lines}
use Rattle.bf_output.specs.Shown.{TesterShown}
use Rattle.bf_output.specs.Tested.{IsTestedRun, IsFrontIfTold, run_on, status_at_end, lines_at_end, told_of_run, is_test_fault}
use Rattle.bf_output.specs.Traces.{traced, traced_if}
use Rattle.bf_output.specs.Told.{Told}

-- where no test failed, the run has ended and is told as such
pub closed : (history : History) (first : Begun) (run : Run) (end : End) → run.end ≡ end → is_test_fault (status_at_end end) ≡ false
    → (is_open end ≡ false) × ((status_at_end end ≡ status_of_end end)
    × (lines_at_end (commits_of history) first.sides end ≡ answer_lines (commits_of history) first.sides end))
closed history first run (Answered a) is h = (refl, (refl, refl))
closed history first run Leg is h = (refl, (refl, refl))
closed history first run (Open p) is h = absurd (both_ways true h refl)
closed history first run (Aborted p outcome) is h = (refl, (refl, refl))

told_closed : (history : History) (first : Begun) (run : Run) → is_test_fault (status_at_end run.end) ≡ false
    → (is_open run.end ≡ false) × (told_of_run history first run ≡ ran history first run)
told_closed history first run h =
    let ends = closed history first run run.end refl h in
    (ends.0, λ i. record { status = ends.1.0 i; text = log_on history first run.entries ++ ends.1.1 i })

by_plan : (told : Option (List Outcome)) (history : History) (first : Begun) (run : Run) (outcomes : List Outcome) → told ≡ Some outcomes
    → IsFrontIfTold told history first run → is_open run.end ≡ false → run ≡ run_over history first outcomes
by_plan told history first run outcomes e h over =
    (subst (λ (o : Option (List Outcome)). IsFrontIfTold o history first run) e h).ended over

-- a trace does not change the status
status_of_traced : (is_asked : Bool) (history : History) (legs : Legs) (told : Told) → (traced_if is_asked history legs told).status ≡ told.status
status_of_traced false history legs told = refl
status_of_traced true history legs told = refl

pub run_told : (request : Request) (tested : TesterShown) (plan : List Outcome) (history : History) (first : Begun) (told : Told) → tested.plan ≡ Some plan
    → IsTestedRun request tested history first told → is_test_fault told.status ≡ false
    → (legs : Legs) × (told ≡ traced_if request.trace history legs (ran history first (run_over history first plan)))
run_told request tested plan history first told e is h =
    let run = run_on history first is.table in
    let status = ap (λ (t : Told). t.status) is.tells ∙ status_of_traced request.trace history is.legs (told_of_run history first run) in
    let ends = told_closed history first run (ap is_test_fault (sym status) ∙ h) in (
      is.legs,
      is.tells ∙ ap (traced_if request.trace history is.legs)
          (ends.1 ∙ ap (ran history first) (by_plan tested.plan history first run plan e is.planned ends.0)),
    )

-- ---- a run whose outcomes are told

part_of_plan : (plan : List Outcome) (table : List (Option Outcome)) → TableFollows (Some plan) table
    → IsPartOf (outcomes_of_table table) (outcomes_of_plan plan)
part_of_plan plan table follows = λ p. at p (outcomes_of_table table p) (λ outcome e. follows p outcome e)
  where
    at : (p : ℕ) (o : Option Outcome) → ((outcome : Outcome) → o ≡ Some outcome → outcome ≡ planned plan p)
        → IfSome o (λ outcome. outcomes_of_plan plan p ≡ Some outcome)
    at p None h = tt
    at p (Some outcome) h = ap (λ (x : Outcome). Some x) (sym (h outcome refl))

-- on what follows the plan, a run is a front of the run over the plan
pub front_if_told : (told : Option (List Outcome)) (history : History) (first : Begun) (table : List (Option Outcome)) → TableFollows told table
    → IsFrontIfTold told history first (run_on history first table)
front_if_told None history first table follows = tt
front_if_told (Some plan) history first table follows =
    let part = part_of_plan plan table follows in
    record {
      begins = seq_goes_on history.parents first.search (outcomes_of_table table) (outcomes_of_plan plan) 0 part;
      ended = λ closed. sym (seq_ends_alike history.parents first.search (outcomes_of_table table) (outcomes_of_plan plan) 0 part closed);
    }

-- a run whose outcomes are those that words write is told as the command `simulate` tells it
pub simulated_run : (request : Request) (words : List (List ℕ)) (tested : TesterShown) (history : History) (first : Begun) (told : Told)
    → tested.plan ≡ Some (plan_of request words) → IsTestedRun request tested history first told → is_test_fault told.status ≡ false
    → IsSimulated request words history first told
simulated_run request words tested history first told e is h = inl (by_flag request.trace is.tells)
  where
    run : Run
    run = run_on history first is.table

    status : told.status ≡ status_at_end run.end
    status = ap (λ (t : Told). t.status) is.tells ∙ status_of_traced request.trace history is.legs (told_of_run history first run)

    ends : (is_open run.end ≡ false) × (told_of_run history first run ≡ ran history first run)
    ends = told_closed history first run (ap is_test_fault (sym status) ∙ h)

    whole : run ≡ run_over history first (plan_of request words)
    whole = by_plan tested.plan history first run (plan_of request words) e is.planned ends.0

    by_flag : (is_asked : Bool) → told ≡ traced_if is_asked history is.legs (told_of_run history first run)
        → IsRunTold is_asked request (plan_of request words) history first told
    by_flag false tells = tells ∙ ends.1 ∙ ap (ran history first) whole
    by_flag true tells = record {
      table = is.table;
      legs = is.legs;
      are = is.over.are;
      planned = subst (λ (o : Option (List Outcome)). TableFollows o is.table) e is.over.known.planned;
      knows = whole;
      alone = λ one. subst (λ (r : Run). AreTestsOf r (all_of is.legs)) whole (is.over.alone one).tested;
      tells = tells ∙ ap (traced history is.legs) (ends.1 ∙ ap (ran history first) whole);
    }
