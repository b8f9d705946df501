use Rattle.std.proofs.Common.{◌≡◌, map}
use Rattle.std.specs.List.{range_with_len}
use Rattle.bf_choice.specs.Numbering.{number_of}
use Rattle.bf_choice.proofs.numbering.candidate_numbers.Given as goal

abbrev pub invariant-loop-place : goal.invariant-loop-place
invariant-loop-place l = (l.next ≡ number_of l.mask l.place) × (l.numbers.items ≡ map (number_of l.mask) (range_with_len 0 l.place))
