-- How 64-bit words stand for a list of truth values.
use Rattle.std.specs.Prelude.{◌≡◌, ℕ, ◌+◌, ◌/◌, ◌%◌, ◌<◌, ◌≤◌, ◌^◌, Bool, true, false, nat_eq, List, map, length, slice_index, Option, MatchOption}
use Rattle.std.specs.Int.{bit_at}
use Rattle.std.specs.List.{range_with_len}
use Rattle.std.specs.Simd.Lanes.{zip2, chunk, put_chunk}

-- whether bit k of one word is 1
abbrev pub bit_in : ℕ → ℕ → Bool
bit_in word k = nat_eq (bit_at word k) 1

-- whether bit k is 1, where the words are laid end to end, each from its lowest bit
abbrev pub has_bit : List ℕ → ℕ → Bool
has_bit words k = nat_eq (bit_at (slice_index words (k / 64)) (k % 64)) 1

-- the first len bits
unfoldable pub bits : ℕ → List ℕ → List Bool
bits len words = map (has_bit words) (range_with_len 0 len)

-- how many words hold len bits
abbrev pub words_for : ℕ → ℕ
words_for len = (len + 63) / 64

-- the words hold len bits and no more: each bit past them is 0
pub record Holds (len : ℕ) (words : List ℕ) : Type 0 where
  pub short : len < 2 ^ 32
  pub whole : length words ≡ words_for len
  pub clean : (k : ℕ) → len ≤ k → has_bit words k ≡ false

-- test fails from low on
abbrev pub NoBitFrom : (ℕ → Bool) → ℕ → Type 0
NoBitFrom test low = (k : ℕ) → low ≤ k → test k ≡ false

-- test passes at place, and nowhere from low up to it
pub record IsNextBit (test : ℕ → Bool) (low place : ℕ) : Type 0 where
  pub above : low ≤ place
  pub passes : test place ≡ true
  pub fails_before : (k : ℕ) → low ≤ k → k < place → test k ≡ false

-- the lowest place from low on at which test passes, and none where it fails from there on
abbrev pub IsLowestFrom : (ℕ → Bool) → ℕ → Option ℕ → Type 0
IsLowestFrom test low found = MatchOption found (NoBitFrom test low) (IsNextBit test low)

-- words, the eight of which from one place on are each combined with one of eight others
abbrev pub combined_at : (ℕ → ℕ → ℕ) → List ℕ → ℕ → List ℕ → ℕ → List ℕ
combined_at combine words into others from =
    put_chunk into words (zip2 combine (chunk into 8 words) (chunk from 8 others))
