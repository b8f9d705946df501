use Rattle.std.proofs.Common.{◌≡◌, map}
use Rattle.std.specs.List.{range_with_len}
use Rattle.bf_choice.specs.Numbering.{size_of_number}
use Rattle.bf_choice.proofs.weighing.by_place.Given as goal

abbrev pub invariant-loop-place : goal.invariant-loop-place
invariant-loop-place l = l.weights.items ≡ map (size_of_number l.mask l.sizes) (range_with_len 0 l.place)
