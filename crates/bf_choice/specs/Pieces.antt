-- A graph in pieces: where all that is later reaches all that is earlier, the pieces can be counted alone.
use Rattle.std.specs.Prelude.{◌≡◌, ℕ, ◌-◌, ◌<◌, ◌+◌, ◌≤◌, Bool, true, nat_le, nat_lt, ◌&&◌, List, length, map, filter, slice_index_or, false, All}
use Rattle.std.specs.List.{range_with_len}
use Rattle.bf_graph.specs.Graph.{parents_of}
use Rattle.bf_search.specs.Candidates.{is_in}
use Rattle.bf_search.specs.Reach.{Reaches, reaches}
use Rattle.bf_choice.specs.Numbering.{IsNumbered}

-- the last place reaches each place
pub record HasTop (graph : List (List ℕ)) : Type 0 where
  pub reaches_all : (q : ℕ) → q < length graph → Reaches graph (length graph - 1) q

-- each place from this one on reaches each place before it
pub record IsBase (graph : List (List ℕ)) (base : ℕ) : Type 0 where
  pub reached : (p q : ℕ) → base ≤ p → p < length graph → q < base → reaches graph p q ≡ true

-- from this place on each place has parents, and none of them is below this bound, which is 0 where nothing is said
pub record HasParentsFrom (graph : List (List ℕ)) (place bound : ℕ) : Type 0 where
  pub some : (p : ℕ) → place ≤ p → p < length graph → 0 < bound → 0 < length (parents_of graph p)
  pub from : (p : ℕ) → place ≤ p → p < length graph → All (λ parent. bound ≤ parent) (parents_of graph p)

-- by place, whether it lies from one place up to another
unfoldable pub interval : ℕ → ℕ → ℕ → List Bool
interval n base end = map (λ p. nat_le base p && nat_lt p end) (range_with_len 0 n)

-- the parents from a base on, counted from there
abbrev pub shifted : ℕ → List ℕ → List ℕ
shifted base ps = map (λ p. p - base) (filter (λ p. nat_le base p) ps)

-- each place that is said to be a base is one
pub record HasBases (graph : List (List ℕ)) (bases : List Bool) : Type 0 where
  pub size : length bases ≡ length graph
  pub told : (base : ℕ) → slice_index_or bases base false ≡ true → IsBase graph base

-- the piece has the places from a base up to an end, numbered from 0
abbrev pub IsPiece : List (List ℕ) → ℕ → ℕ → List (List ℕ) → Type 0
IsPiece graph base end piece = IsNumbered graph (interval (length graph) base end) end piece

-- a piece may end with this place: the next place, where there is one, is said to be a base
abbrev pub MayEndWith : List Bool → ℕ → Type 0
MayEndWith bases place = place + 1 < length bases → is_in bases (place + 1) ≡ true
