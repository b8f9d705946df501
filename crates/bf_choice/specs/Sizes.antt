-- How many places each place of a graph reaches.
use Rattle.std.specs.Prelude.{◌≡◌, ◌≢◌, ℕ, ◌+◌, ◌<◌, ◌≤◌, ◌==◌, if◌then◌else◌, List, [], ◌∷◌, length, map, slice_index}
use Rattle.std.specs.List.{list_all}
use Rattle.bf_graph.specs.Graph.{parents_of}
use Rattle.bf_search.specs.Reach.{places, reaches}
use Rattle.bf_choice.specs.declared.parents.Parentage.{Parentage}
use Rattle.bf_choice.specs.declared.parents.Parentage.TheVariants.{Root, Single, Merge}
use Rattle.bf_choice.specs.Counted.{count_below}

-- how many places a place reaches, itself included
unfoldable pub reach_size : List (List ℕ) → ℕ → ℕ
reach_size graph p = count_below (reaches graph p) (length graph)

-- that number for each place
unfoldable pub reach_sizes : List (List ℕ) → List ℕ
reach_sizes graph = map (reach_size graph) (places graph)

-- how many different parents a list has, where a parent that is repeated counts once
abbrev pub parentage_of : List ℕ → Parentage
parentage_of [] = Root
parentage_of (parent ∷ parents) = if list_all (λ other. other == parent) parents then Single parent else Merge

-- no place of the graph is a merge
abbrev pub HasNoMerge : List (List ℕ) → Type 0
HasNoMerge graph = (p : ℕ) → p < length graph → parentage_of (parents_of graph p) ≢ Merge

-- for each merge it is counted how many places before this end it reaches
pub record CountsMerges (graph : List (List ℕ)) (end : ℕ) (sizes : List ℕ) : Type 0 where
  pub size : length sizes ≡ length graph
  pub merges : (p : ℕ) → p < length graph → parentage_of (parents_of graph p) ≡ Merge → slice_index sizes p ≡ count_below (reaches graph p) end

-- while the places from start on are counted, 512 of them: it is done for the merges before this place
pub record CountsBlock (graph : List (List ℕ)) (start place : ℕ) (sizes : List ℕ) : Type 0 where
  pub size : length sizes ≡ length graph
  pub done : (p : ℕ) → p < place → p < length graph → parentage_of (parents_of graph p) ≡ Merge → slice_index sizes p ≡ count_below (reaches graph p) (start + 512)
  pub left : (p : ℕ) → place ≤ p → p < length graph → parentage_of (parents_of graph p) ≡ Merge → slice_index sizes p ≡ count_below (reaches graph p) start

-- the sizes of the places before this one are known, and those of all merges
pub record SizesKnown (graph : List (List ℕ)) (place : ℕ) (sizes : List ℕ) : Type 0 where
  pub size : length sizes ≡ length graph
  pub before : (p : ℕ) → p < place → slice_index sizes p ≡ reach_size graph p
  pub merges : (p : ℕ) → p < length graph → parentage_of (parents_of graph p) ≡ Merge → slice_index sizes p ≡ reach_size graph p
