-- Words on a list of truth values, one for each place.
use Rattle.std.specs.Prelude.{◌≡◌, ℕ, ◌<◌, ◌≤◌, Bool, true, false, List}
use Rattle.bf_search.specs.Candidates.{is_in}

-- from low on each place is false
abbrev pub NoneTrueFrom : List Bool → ℕ → Type 0
NoneTrueFrom row low = (p : ℕ) → low ≤ p → is_in row p ≡ false

-- the place is the least that is true, from low on
pub record IsNextTrue (row : List Bool) (low place : ℕ) : Type 0 where
  pub from_low : low ≤ place
  pub is_true : is_in row place ≡ true
  pub false_before : (p : ℕ) → low ≤ p → p < place → is_in row p ≡ false
