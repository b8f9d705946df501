use Rattle.std.proofs.Common.{◌≡◌, ◌+◌, length, take}
use Rattle.bf_tables.specs.Slots.{filled}
use Rattle.bf_tables.proofs.refs.slot_of.Given as goal

abbrev pub invariant-loop-number : goal.invariant-loop-number
invariant-loop-number l = l.left + length (filled (take l.number l.slots)) ≡ l.index
