-- The parents of the places of a row.
use Rattle.std.specs.Prelude.{◌≡◌, ℕ, ◌<◌, Bool, true, List, length, Contains}
use Rattle.bf_graph.specs.Graph.{parents_of}
use Rattle.bf_search.specs.Candidates.{is_in}

-- a place of the row has q as a parent
pub record HasChild (graph : List (List ℕ)) (row : List Bool) (q : ℕ) : Type 0 where
  pub child : ℕ
  pub is_true : is_in row child ≡ true
  pub step : Contains (parents_of graph child) q

-- The row of parents has parents of the places of the other row alone, and all those of its places below n.
pub record IsParentsBelow (graph : List (List ℕ)) (row : List Bool) (n : ℕ) (parents : List Bool) : Type 0 where
  pub same_length : length parents ≡ length row
  pub has_child : (q : ℕ) → is_in parents q ≡ true → HasChild graph row q
  pub complete : (q : ℕ) (h : HasChild graph row q) → h.child < n → is_in parents q ≡ true
