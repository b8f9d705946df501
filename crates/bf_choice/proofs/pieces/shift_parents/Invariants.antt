use Rattle.std.proofs.Common.{◌≡◌, take}
use Rattle.bf_choice.specs.Pieces.{shifted}
use Rattle.bf_choice.proofs.pieces.shift_parents.Given as goal

abbrev pub invariant-loop-parent : goal.invariant-loop-parent
invariant-loop-parent l = l.into.items ≡ shifted l.base (take l.parent-index l.parents)
