-- The candidates from the two sides: what the bad place reaches, without what a good one reaches.
use Rattle.std.proofs.Common.{◌≡◌, ℕ, Bool, not, ◌&&◌, List, length}
use Rattle.std.proofs.lemmas.Simd.{zip2-map}
use Rattle.std.specs.List.{range_with_len}
use Rattle.std.specs.Simd.Lanes.{zip2}
use Rattle.bf_search.specs.Reach.{in_mode, reaches, any_reaches, reach_row, reach_row_of}
use Rattle.bf_search.specs.Candidates.{is_candidate, candidate_row}
use Rattle.bf_search.proofs.Modes.{length-in_mode}

pub row_of_sides : (graph : List (List ℕ)) (bad : ℕ) (goods : List ℕ) (first_parent : Bool)
    → zip2 (λ mine theirs. mine && not theirs) (reach_row (in_mode graph first_parent) bad) (reach_row_of graph goods) ≡ candidate_row graph bad goods
    first_parent
unfolding reach_row reach_row_of is_candidate candidate_row
row_of_sides graph bad goods first_parent =
    rw (length-in_mode graph first_parent)
    (zip2-map (λ mine theirs. mine && not theirs) (λ p. reaches (in_mode graph first_parent) bad p) (λ p. any_reaches graph goods p)
    (range_with_len 0 (length graph)))
