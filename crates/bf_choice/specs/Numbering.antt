-- The candidates by their numbers, and the graph of the candidates alone.
use Rattle.std.specs.Prelude.{◌≡◌, ℕ, ◌<◌, Bool, true, if◌then◌else◌, slice_index, List, length, map, filter}
use Rattle.std.specs.List.{range_with_len}
use Rattle.bf_graph.specs.Graph.{parents_of}
use Rattle.bf_search.specs.Candidates.{is_in}
use Rattle.bf_search.specs.Reach.{in_mode}
use Rattle.bf_choice.specs.Counted.{count_below}

-- the number of a candidate: how many candidates stand before it
unfoldable pub number_of : List Bool → ℕ → ℕ
number_of row p = count_below (is_in row) p

-- by place, how many candidates stand before it
unfoldable pub candidate_numbers : List Bool → List ℕ
candidate_numbers row = map (number_of row) (range_with_len 0 (length row))

-- the numbers of the candidates among these places
abbrev pub numbers_of : List Bool → List ℕ → List ℕ
numbers_of row ps = map (number_of row) (filter (is_in row) ps)

-- The small graph has the candidates before this end, each with its candidate parents, all by their numbers.
pub record IsNumbered (graph : List (List ℕ)) (row : List Bool) (end : ℕ) (small : List (List ℕ)) : Type 0 where
  pub size : length small ≡ number_of row end
  pub parents : (p : ℕ) → p < end → is_in row p ≡ true → parents_of small (number_of row p) ≡ numbers_of row (parents_of graph p)

-- by place, the size of its number for a candidate, and 0 elsewhere
abbrev pub size_of_number : List Bool → List ℕ → ℕ → ℕ
size_of_number row sizes p = if is_in row p then slice_index sizes (number_of row p) else 0

-- by place, the size of each candidate's number
abbrev pub sizes_by_place : List Bool → List ℕ → List ℕ
sizes_by_place row sizes = map (size_of_number row sizes) (range_with_len 0 (length row))

-- the small graph has all candidates, each with its candidate parents in the mode
abbrev pub IsCandidateGraph : List (List ℕ) → List Bool → Bool → List (List ℕ) → Type 0
IsCandidateGraph graph row first_parent small = IsNumbered (in_mode graph first_parent) row (length graph) small
