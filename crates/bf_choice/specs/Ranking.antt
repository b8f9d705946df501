-- The candidates in the order in which they are chosen.
use Rattle.std.specs.Prelude.{◌≡◌, ◌≢◌, ◌⊎◌, ℕ, ◌-◌, ◌<◌, ◌≤◌, Bool, true, List, map, length, slice_index, All, Contains, Option, IfSome}
use Rattle.bf_search.specs.Candidates.{is_in}
use Rattle.bf_search.specs.Choice.{count_in, value_of, best}
use Rattle.bf_choice.specs.declared.ranking.Rank.{Rank}

-- the value of a place, by the weights
abbrev pub value_at : List Bool → List ℕ → ℕ → ℕ
value_at mask weights p = value_of (count_in mask) (slice_index weights p)

-- a candidate, and not the bad one
abbrev pub IsOther : List Bool → ℕ → ℕ → Type 0
IsOther mask bad p = (is_in mask p ≡ true) × (p ≢ bad)

-- it is chosen before the other place: its value is greater or, where both have the same, it is the earlier one
abbrev pub ComesBefore : (ℕ → ℕ) → ℕ → ℕ → Type 0
ComesBefore value p q = (value q < value p) ⊎ ((value q ≡ value p) × (p ≤ q))

-- These are the candidates but the bad one, in the order in which they are chosen.
pub record IsRanking (mask : List Bool) (weights : List ℕ) (bad : ℕ) (ps : List ℕ) : Type 0 where
  pub each : All (IsOther mask bad) ps
  pub whole : (p : ℕ) → IsOther mask bad p → Contains ps p
  pub in_order : (i j : ℕ) → i ≤ j → j < length ps → ComesBefore (value_at mask weights) (slice_index ps i) (slice_index ps j)

-- a place stands there in the order
abbrev pub StandsAt : List ℕ → ℕ → ℕ → Type 0
StandsAt ps at p = (at < length ps) × (slice_index ps at ≡ p)

-- of whatever candidates this is the ranking, the choice is the best of them that is not skipped
abbrev pub IsBestRanked : List ℕ → List Bool → Option ℕ → Type 0
IsBestRanked ps skips choice =
    (mask : List Bool) (weights : List ℕ) (bad : ℕ) → IsRanking mask weights bad ps → choice ≡ best mask weights bad skips

-- and a choice is one of them, but not the bad one
abbrev pub IsOtherRanked : List ℕ → Option ℕ → Type 0
IsOtherRanked ps choice =
    (mask : List Bool) (weights : List ℕ) (bad : ℕ) → IsRanking mask weights bad ps → IfSome choice (IsOther mask bad)

-- so many of the first are skipped
pub record IsPassed (skips : List Bool) (ps : List ℕ) (passed : ℕ) : Type 0 where
  pub within : passed ≤ length ps
  pub skipped : (k : ℕ) → k < passed → is_in skips (slice_index ps k) ≡ true

-- the rank of a candidate
pub record IsRank (mask : List Bool) (weights : List ℕ) (bad : ℕ) (rank : Rank) : Type 0 where
  pub of : IsOther mask bad rank.place
  pub left : rank.left ≡ count_in mask - value_at mask weights rank.place

-- the ranks of the candidates below n
pub record AreRanks (mask : List Bool) (weights : List ℕ) (bad n : ℕ) (ranks : List Rank) : Type 0 where
  pub each : All (IsRank mask weights bad) ranks
  pub whole : (p : ℕ) → p < n → IsOther mask bad p → Contains (map (λ rank. rank.place) ranks) p

-- the ranks of all candidates but the bad one
abbrev pub AreAllRanks : List Bool → List ℕ → ℕ → List Rank → Type 0
AreAllRanks mask weights bad ranks = AreRanks mask weights bad (length mask) ranks
