use Rattle.std.proofs.Common.{◌≡◌, ◌++◌, drop}
use Rattle.bf_protocol.specs.Events.{each_number}
use Rattle.bf_protocol.proofs.lines.put_each.Given as goal

-- the numbers so far, and those from here on
abbrev pub invariant-loop-number : goal.invariant-loop-number
invariant-loop-number l = l.fn.out ++ each_number l.numbers ≡ l.out ++ each_number (drop l.number-index l.numbers)
