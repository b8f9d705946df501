use Rattle.std.proofs.Common.{◌≡◌, map, length}
use Rattle.std.specs.List.{range_with_len}
use Rattle.bf_choice.specs.Plain.{weight_in}
use Rattle.bf_choice.proofs.plain.weights_plain.Given as goal

abbrev pub invariant-loop-place : goal.invariant-loop-place
invariant-loop-place l = (length l.reached ≡ length l.reach) × (l.weights.items ≡ map (weight_in l.reach l.mask l.first_parent) (range_with_len 0 l.place))
