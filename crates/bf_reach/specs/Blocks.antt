-- Rows of 512 places, held eight words a row.
use Rattle.std.specs.Prelude.{ℕ, ◌*◌, Bool, false, ◌||◌, List, [], map, drop, replicate, slice_index_or, slice_set}
use Rattle.std.specs.List.{range_with_len}
use Rattle.std.specs.Simd.Lanes.{zip2}
use Rattle.bf_reach.specs.Bits.{bits}

-- a row of a list of rows
abbrev pub row_at : List (List Bool) → ℕ → List Bool
row_at blocks row = slice_index_or blocks row []

-- the rows, one of which has also what is true in another
abbrev pub with_joined : List (List Bool) → ℕ → ℕ → List (List Bool)
with_joined blocks into from = slice_set blocks into (zip2 ◌||◌ (row_at blocks into) (row_at blocks from))

-- 512 places, each false
unfoldable pub empty_row : List Bool
empty_row = replicate 512 false

-- the 512 bits of a row's eight words
abbrev pub row_bits : List ℕ → ℕ → List Bool
row_bits words row = bits 512 (drop (8 * row) words)

-- the rows that the words hold
unfoldable pub block_rows : ℕ → List ℕ → List (List Bool)
block_rows rows words = map (row_bits words) (range_with_len 0 rows)
