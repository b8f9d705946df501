-- How runs of one search with different outcomes hang together.
use Rattle.std.specs.Prelude.{◌≡◌, ℕ, Bool, true, false, List, ◌++◌, Some, IfSome}
use Rattle.bf_search.specs.declared.entries.Entry.{Entry}
use Rattle.bf_search.specs.Outcomes.{Outcomes}
use Rattle.bf_search.specs.Run.{End, Leg, Open, Run}

-- each outcome that is known here is known there
abbrev pub IsPartOf : Outcomes → Outcomes → Type 0
IsPartOf known more = (p : ℕ) → IfSome (known p) (λ outcome. more p ≡ Some outcome)

-- the one list of entries goes on with the other's
pub record GoesOn (entries more : List Entry) : Type 0 where
  pub rest : List Entry
  pub goes_on : more ≡ entries ++ rest

-- whether a run ended at a place whose outcome is not known
abbrev pub is_open : End → Bool
is_open (Open p) = true
is_open other = false

-- whether a run may go on from the state that it reached
abbrev pub is_unfinished : End → Bool
is_unfinished Leg = true
is_unfinished (Open p) = true
is_unfinished other = false

-- one run after another
abbrev pub in_sequence : Run → Run → Run
in_sequence first second = record second { entries = first.entries ++ second.entries; used = first.used ++ second.used }
