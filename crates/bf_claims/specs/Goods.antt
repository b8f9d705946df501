-- The good commits that a certificate lists, beside those that are claimed to be good.
use Rattle.std.specs.Prelude.{ℕ, ◌+◌, ◌==◌, Bool, false, if◌then◌else◌, List, [], ◌∷◌, slice_set, count_by, Option, Some, None}
use Rattle.bf_search.specs.Candidates.{is_in}

-- Each listed place strikes a claimed one off. The first that strikes none off is strange; behind the last one
-- the next would be, where a claimed one is left. The count is of those before it.
unfoldable pub strange : List Bool → ℕ → List ℕ → Option ℕ
strange row n [] = if count_by (λ value. value) row == 0 then None else Some n
strange row n (p ∷ ps) = if is_in row p then strange (slice_set row p false) (n + 1) ps else Some n
