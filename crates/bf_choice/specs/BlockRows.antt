-- Which places of a block of 512 each place reaches.
use Rattle.std.specs.Prelude.{◌≡◌, ℕ, ◌+◌, ◌<◌, ◌≤◌, Bool, true, false, nat_lt, ◌==◌, ◌||◌, min, if◌then◌else◌, List, length, map, Option, None, Some}
use Rattle.std.specs.Option.{IfSome}
use Rattle.std.specs.List.{list_any, range_with_len, slice_index_or}
use Rattle.bf_graph.specs.Graph.{parents_of}
use Rattle.bf_reach.specs.Blocks.{row_at, empty_row}
use Rattle.bf_search.specs.Reach.{reaches}
use Rattle.bf_choice.specs.declared.parents.Parentage.{Parentage}
use Rattle.bf_choice.specs.declared.parents.Parentage.TheVariants.{Root, Single, Merge}
use Rattle.bf_choice.specs.declared.sharing.SharedRows.{SharedRows}
use Rattle.bf_choice.specs.Counted.{count_below}
use Rattle.bf_choice.specs.Sizes.{parentage_of}

-- how many places a block has
unfoldable pub columns : ℕ
columns = 512

-- whether a place reaches each place of the block that starts here
unfoldable pub block_row : List (List ℕ) → ℕ → ℕ → List Bool
block_row graph start p = map (reaches graph p) (range_with_len start columns)

-- which place of the block is the place itself
unfoldable pub own_row : ℕ → ℕ → List Bool
own_row start p = map (λ q. p == q) (range_with_len start columns)

-- which places of the block are the place itself, or are reached by these
unfoldable pub joined_row : List (List ℕ) → ℕ → ℕ → List ℕ → List Bool
joined_row graph start p parents = map (λ q. (p == q) || list_any (λ r. reaches graph r q) parents) (range_with_len start columns)

-- ---- places that share rows

-- a root or a merge: it has no single parent whose row it may share
abbrev pub is_apart : Parentage → Bool
is_apart Root = true
is_apart (Single parent) = false
is_apart Merge = true

-- how many roots and merges stand before a place
abbrev pub apart_below : List (List ℕ) → ℕ → ℕ
apart_below graph = count_below (λ p. is_apart (parentage_of (parents_of graph p)))

-- one for each place of a block, and one for each root and merge, but no more than there are places
abbrev pub rows_needed : List (List ℕ) → ℕ
rows_needed graph = min (apart_below graph (length graph) + 512) (length graph)

-- the row that has this number; without a number it is the empty one
abbrev pub numbered_row : List (List Bool) → Option ℕ → List Bool
numbered_row blocks None = empty_row
numbered_row blocks (Some number) = row_at blocks number

-- the number of a place's row, where the rows are those of the places from the start on
abbrev pub number_in : ℕ → List (Option ℕ) → ℕ → Option ℕ
number_in start numbers p = if nat_lt p start then None else slice_index_or numbers p None

-- as many rows as a block of the graph may need, and a number for each place
pub record FitsGraph (graph : List (List ℕ)) (shared : SharedRows) : Type 0 where
  pub rows : length shared.blocks ≡ rows_needed graph
  pub numbers : length shared.numbers.items ≡ length graph

-- Each place before this one has the number of a row that is filled, and taken.
pub record AreFilled (graph : List (List ℕ)) (start place : ℕ) (shared : SharedRows) : Type 0 where
  pub filled : (p : ℕ) → p < place → p < length graph
      → numbered_row shared.blocks (number_in start shared.numbers.items p) ≡ block_row graph start p
  pub taken : (p : ℕ) → p < place → p < length graph → IfSome (number_in start shared.numbers.items p) (λ number. number < shared.taken)

-- The rows of the places before this one are filled, and those that are not taken are empty. A place takes one row at most, and past
-- the block only a root or a merge does.
pub record HasBlockRows (graph : List (List ℕ)) (start place : ℕ) (shared : SharedRows) : Type 0 where
  pub fits : FitsGraph graph shared
  pub before : AreFilled graph start place shared
  pub empty : (number : ℕ) → shared.taken ≤ number → number < length shared.blocks → row_at shared.blocks number ≡ empty_row
  pub each : start + shared.taken ≤ place
  pub past : shared.taken ≤ apart_below graph place + 512
