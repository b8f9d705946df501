-- What stands at a place past the last.
use Rattle.std.proofs.Common.{◌≡◌, ℕ, ◌≤◌, suc, zero, List, [], ◌∷◌, length, refl, arith}
use Rattle.std.specs.List.{slice_index_or}

pub past_last : {X : Type 0} (xs : List X) (d : X) (place : ℕ) → length xs ≤ place → slice_index_or xs place d ≡ d
past_last [] d place le = refl
past_last (x ∷ xs) d zero le = absurd (omega arith)
past_last (x ∷ xs) d (suc place) le = past_last xs d place (omega arith)
