-- Places marked in a row, and what a walk down a graph marks.
use Rattle.std.specs.Prelude.{◌≡◌, ℕ, ◌≤◌, Bool, true, List, [], ◌∷◌, length, slice_set, Contains}
use Rattle.bf_graph.specs.Graph.{parents_of}
use Rattle.bf_search.specs.Reach.{Reaches}
use Rattle.bf_search.specs.Candidates.{is_in}

-- the row with these places true
abbrev pub marked : List Bool → List ℕ → List Bool
marked row [] = row
marked row (p ∷ ps) = marked (slice_set row p true) ps

-- a place of the row reaches q
pub record RowReaches (graph : List (List ℕ)) (row : List Bool) (q : ℕ) : Type 0 where
  pub source : ℕ
  pub is_source : is_in row source ≡ true
  pub leads : Reaches graph source q

-- After a walk from the marks of one row down to a place: each mark is reached from them, they are marked still, and
-- the parents of each marked place from there on are marked.
pub record Marks (graph : List (List ℕ)) (start row : List Bool) (low : ℕ) : Type 0 where
  pub same_length : length row ≡ length start
  pub reached : (q : ℕ) → is_in row q ≡ true → RowReaches graph start q
  pub kept : (q : ℕ) → is_in start q ≡ true → is_in row q ≡ true
  pub closed : (p q : ℕ) → low ≤ p → is_in row p ≡ true → Contains (parents_of graph p) q → is_in row q ≡ true
