use Rattle.std.proofs.Common.{◌≡◌, ◌+◌, map}
use Rattle.std.specs.List.{range_with_len}
use Rattle.bf_choice.specs.Sizes.{reach_size}
use Rattle.bf_choice.proofs.pieces.push_piece.Given as goal

abbrev pub invariant-loop-size : goal.invariant-loop-size
invariant-loop-size l = l.sizes.items ≡ map (reach_size l.graph) (range_with_len 0 (l.base + l.size-index))
