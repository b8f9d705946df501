use Rattle.std.proofs.Common.{◌≡◌, take}
use Rattle.bf_many_run.specs.Groups.{searches_in}
use Rattle.bf_many_run.proofs.group.searches_of.Given as goal

abbrev pub invariant-loop-slot : goal.invariant-loop-slot
invariant-loop-slot l = l.searches.items ≡ searches_in l.len (take l.slot-index l.slots)
