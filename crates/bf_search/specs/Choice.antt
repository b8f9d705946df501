-- The best candidate to test: the one that halves the candidates best (git-bisect-lk2009, "Bisection algorithm").
use Rattle.std.specs.Prelude.{ℕ, ◌-◌, min, Bool, not, ◌&&◌, ◌==◌, nat_le, List, length, filter, find, count_by, Option, slice_index}
use Rattle.std.specs.List.{list_all, range_with_len}
use Rattle.bf_search.specs.Candidates.{is_in}

-- the number of places in a row
abbrev pub count_in : List Bool → ℕ
count_in row = count_by (λ b. b) row

-- The value of a place among so many candidates: how many of them its test rules out at least.
abbrev pub value_of : ℕ → ℕ → ℕ
value_of count weight = min weight (count - weight)

-- A place may be asked where it is a candidate, neither the bad one nor skipped.
abbrev pub is_eligible : List Bool → ℕ → List Bool → ℕ → Bool
is_eligible mask bad skips p = is_in mask p && not (p == bad) && not (is_in skips p)

-- the places that may be asked, in order
abbrev pub eligible : List Bool → ℕ → List Bool → List ℕ
eligible mask bad skips = filter (λ p. is_eligible mask bad skips p) (range_with_len 0 (length mask))

-- the first of these places whose value none of them exceeds; none of no places
abbrev pub first_greatest : (ℕ → ℕ) → List ℕ → Option ℕ
first_greatest value ps = find (λ p. list_all (λ q. nat_le (value q) (value p)) ps) ps

-- the place to ask: of those that may be asked the one of the greatest value, the earliest among equals
unfoldable pub best : List Bool → List ℕ → ℕ → List Bool → Option ℕ
best mask weights bad skips = first_greatest (λ p. value_of (count_in mask) (slice_index weights p)) (eligible mask bad skips)
