-- The weight of each place.
use Rattle.std.specs.Prelude.{ℕ, Bool, if◌then◌else◌, List}
use Rattle.bf_search.specs.Reach.{in_mode}
use Rattle.bf_search.specs.Candidates.{is_in, weight}

-- the weight in a mode of a place of the row, and 0 elsewhere
unfoldable pub weight_in : List (List ℕ) → List Bool → Bool → ℕ → ℕ
weight_in graph row first_parent p = if is_in row p then weight (in_mode graph first_parent) row p else 0
