-- Plans of a tester, and how a tester reads outcomes.
use Rattle.std.specs.Prelude.{◌≡◌, ℕ, Bool, true, false, if◌then◌else◌, List, map, Option, Some, None}
use Rattle.std.specs.Option.{unwrap_or, is_some}
use Rattle.bf_search.specs.declared.outcomes.Outcome.{Outcome}
use Rattle.bf_search.specs.declared.outcomes.Outcome.TheVariants.{Exit}
use Rattle.bf_search.specs.Outcomes.{lenient, outcome_of_letter}

-- a letter that stands for an outcome
abbrev pub is_letter : ℕ → Bool
is_letter letter = is_some (outcome_of_letter letter)

-- the outcomes that the letters of a plan stand for, in order
abbrev pub plan_of : List ℕ → List Outcome
plan_of letters = map (λ letter. unwrap_or (outcome_of_letter letter) (Exit 125)) letters

-- what is told is the plan that these letters write
abbrev pub IsPlan : Option (List Outcome) → List ℕ → Type 0
IsPlan told letters = told ≡ Some (plan_of letters)

-- an outcome as it is, or in its lenient reading
abbrev pub read_as : Bool → Outcome → Outcome
read_as is_lenient outcome = if is_lenient then lenient outcome else outcome

-- where outcomes are read leniently, this one is a lenient reading
abbrev pub IsReadAs : Bool → Outcome → Type 0
IsReadAs is_lenient outcome = is_lenient ≡ true → lenient outcome ≡ outcome

-- a plan as it is, or in the lenient reading of each outcome
abbrev pub plan_read_as : Bool → List Outcome → List Outcome
plan_read_as is_lenient plan = if is_lenient then map lenient plan else plan

-- What a tester tells once it was prepared: what it told, or the lenient reading of its plan. One that told no plan may
-- tell one once outcomes are read leniently.
abbrev pub PreparesTold : Bool → Option (List Outcome) → Option (List Outcome) → Type 0
PreparesTold false old new = new ≡ old
PreparesTold true None new = Unit {0}
PreparesTold true (Some plan) new = new ≡ Some (map lenient plan)
