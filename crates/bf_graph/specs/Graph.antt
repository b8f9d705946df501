-- A graph is the list of the parent lists, by place.
use Rattle.std.specs.Prelude.{ℕ, ◌<◌, List, [], All}
use Rattle.std.specs.List.{slice_index_or}

-- the parents of a place; none past the end
abbrev pub parents_of : List (List ℕ) → ℕ → List ℕ
parents_of graph place = slice_index_or graph place []

-- each parent is earlier than its child
pub record IsGraph (graph : List (List ℕ)) : Type 0 where
  pub earlier : (place : ℕ) → All (λ parent. parent < place) (parents_of graph place)
