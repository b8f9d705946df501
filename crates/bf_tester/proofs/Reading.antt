use Rattle.std.proofs.Common.{◌≡◌, ℕ, Bool, true, false, ◌||◌, ◌==◌, cond, List, [], ◌∷◌, map, refl, ap, sym, Some}
use Rattle.std.proofs.Math.ListN.{get_or-map}
use Rattle.bf_search.specs.declared.outcomes.Outcome.{Outcome}
use Rattle.bf_search.specs.declared.outcomes.Outcome.TheVariants.{Exit, Killed}
use Rattle.bf_search.specs.Outcomes.{lenient, planned}
use Rattle.bf_tester.specs.Plans.{read_as, plan_read_as, PreparesTold}

-- the outcome of a place in a plan that is read so is the plan's outcome, read so
pub planned_read_as : (is_lenient : Bool) (plan : List Outcome) (place : ℕ)
    → planned (plan_read_as is_lenient plan) place ≡ read_as is_lenient (planned plan place)
planned_read_as true plan place = get_or-map lenient plan place (Exit 125)
planned_read_as false plan place = refl

exit_twice : (is_unstarted : Bool) (status : ℕ) → ((status == 126) || (status == 127)) ≡ is_unstarted
    → lenient (cond is_unstarted (Exit 1) (Exit status)) ≡ cond is_unstarted (Exit 1) (Exit status)
exit_twice true status e = refl
exit_twice false status e = ap (λ (b : Bool). cond b (Exit 1) (Exit status)) e

-- a lenient reading is its own lenient reading
pub lenient_twice : (outcome : Outcome) → lenient (lenient outcome) ≡ lenient outcome
lenient_twice (Exit status) = exit_twice ((status == 126) || (status == 127)) status refl
lenient_twice Killed = refl

all_twice : (plan : List Outcome) → map lenient (map lenient plan) ≡ map lenient plan
all_twice [] = refl
all_twice (outcome ∷ plan) = cc (lenient_twice outcome, all_twice plan)

told_leniently : (is_lenient : Bool) (plan : List Outcome)
    → plan_read_as (is_lenient || true) plan ≡ map lenient (plan_read_as is_lenient plan)
told_leniently true plan = sym (all_twice plan)
told_leniently false plan = refl

told_as_before : (is_lenient : Bool) (plan : List Outcome)
    → plan_read_as (is_lenient || false) plan ≡ plan_read_as is_lenient plan
told_as_before true plan = refl
told_as_before false plan = refl

-- what a tester of a plan tells once it was prepared
pub prepares_told : (lenient is_lenient : Bool) (plan : List Outcome)
    → PreparesTold lenient (Some (plan_read_as is_lenient plan)) (Some (plan_read_as (is_lenient || lenient) plan))
prepares_told true is_lenient plan = ap (λ (p : List Outcome). Some p) (told_leniently is_lenient plan)
prepares_told false is_lenient plan = ap (λ (p : List Outcome). Some p) (told_as_before is_lenient plan)
