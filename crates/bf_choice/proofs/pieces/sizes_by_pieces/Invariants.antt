use Rattle.std.proofs.Common.{◌≡◌, ◌≤◌, map, length}
use Rattle.std.specs.List.{range_with_len}
use Rattle.bf_choice.specs.Pieces.{IsBase}
use Rattle.bf_choice.specs.Sizes.{reach_size}
use Rattle.bf_choice.proofs.pieces.sizes_by_pieces.Given as goal

abbrev pub invariant-loop-place : goal.invariant-loop-place
invariant-loop-place l =
    (l.sizes.items ≡ map (reach_size l.graph) (range_with_len 0 l.base)) × (l.base ≤ l.place) × IsBase l.graph l.base
    × (l.place ≡ length l.graph → l.base ≡ l.place)
