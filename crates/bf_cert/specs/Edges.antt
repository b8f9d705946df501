-- The edges of a graph, in an order in which each is found fast.
use Rattle.std.specs.Prelude.{◌≡◌, ℕ, ◌<◌, List, length}
use Rattle.std.specs.List.Sorted.{IsNonDecreasing}
use Rattle.bf_graph.specs.Graph.{parents_of}
use Rattle.bf_search.specs.Bases.{has_place}

-- the same places in rising order
pub record IsRising (ps rising : List ℕ) : Type 0 where
  pub same : (p : ℕ) → has_place rising p ≡ has_place ps p
  pub order : IsNonDecreasing rising

-- at each of the first places the same parents in rising order
abbrev pub AreRisingTo : ℕ → List (List ℕ) → List (List ℕ) → Type 0
AreRisingTo n graph sorted = (p : ℕ) → p < n → IsRising (parents_of graph p) (parents_of sorted p)

-- a graph has the same parents as another one, in rising order
pub record AreSorted (graph sorted : List (List ℕ)) : Type 0 where
  pub len : length sorted ≡ length graph
  pub each : AreRisingTo (length graph) graph sorted
