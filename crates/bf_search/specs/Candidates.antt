-- The candidates for the first bad commit, and their weights (git-bisect-lk2009, "Bisection algorithm").
use Rattle.std.specs.Prelude.{◌≡◌, ℕ, ◌<◌, Bool, false, not, ◌&&◌, if◌then◌else◌, List, length, map, filter, count_by, All}
use Rattle.std.specs.List.{slice_index_or, range_with_len}
use Rattle.bf_search.specs.Reach.{places, in_mode, reaches, any_reaches}

-- whether a place is in a row of truth values
abbrev pub is_in : List Bool → ℕ → Bool
is_in row p = slice_index_or row p false

-- the places of a row, in order
abbrev pub places_of : List Bool → List ℕ
places_of row = filter (λ p. is_in row p) (range_with_len 0 (length row))

-- A candidate is a place that the bad one reaches, by first parents alone in that mode, and that no good one reaches
-- by any parents.
unfoldable pub is_candidate : List (List ℕ) → ℕ → List ℕ → Bool → ℕ → Bool
is_candidate graph bad goods first_parent p = reaches (in_mode graph first_parent) bad p && not (any_reaches graph goods p)

-- the candidates, by place
unfoldable pub candidates : List (List ℕ) → ℕ → List ℕ → Bool → List ℕ
candidates graph bad goods first_parent = filter (λ p. is_candidate graph bad goods first_parent p) (places graph)

-- by place, whether it is a candidate
unfoldable pub candidate_row : List (List ℕ) → ℕ → List ℕ → Bool → List Bool
candidate_row graph bad goods first_parent = map (λ p. is_candidate graph bad goods first_parent p) (places graph)

-- the row has the candidates of some bad and good places of the graph
pub record IsCandidateRow (graph : List (List ℕ)) (first_parent : Bool) (row : List Bool) : Type 0 where
  pub bad : ℕ
  pub goods : List ℕ
  pub bad_is_place : bad < length graph
  pub goods_are_places : All (λ good. good < length graph) goods
  pub has_candidates : row ≡ candidate_row graph bad goods first_parent

-- the weight of a place: how many places of the row it reaches
unfoldable pub weight : List (List ℕ) → List Bool → ℕ → ℕ
weight graph row p = count_by (λ q. is_in row q && reaches graph p q) (places graph)

-- by place, the weight in a mode of each place of the row, and 0 elsewhere
unfoldable pub weights : List (List ℕ) → List Bool → Bool → List ℕ
weights graph row first_parent = map (λ p. if is_in row p then weight (in_mode graph first_parent) row p else 0) (places graph)
