use Rattle.std.proofs.Common.{◌≡◌, take}
use Rattle.bf_choice.specs.Numbering.{numbers_of}
use Rattle.bf_choice.proofs.numbering.number_parents.Given as goal

abbrev pub invariant-loop-parent : goal.invariant-loop-parent
invariant-loop-parent l = l.into.items ≡ numbers_of l.mask (take l.parent-index l.parents)
