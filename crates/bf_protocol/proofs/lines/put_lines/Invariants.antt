use Rattle.std.proofs.Common.{◌≡◌, ◌++◌, length}
use Rattle.bf_protocol.specs.Events.{numbered_lines}
use Rattle.bf_protocol.proofs.lines.put_lines.Given as goal

-- the lines so far, and those from here on
abbrev pub invariant-loop-line : goal.invariant-loop-line
invariant-loop-line l = l.fn.out ++ numbered_lines l.word l.number l.text ≡ l.out ++ numbered_lines l.word l.number l.rest

abbrev pub decreases-loop-line : goal.decreases-loop-line
decreases-loop-line l = length l.rest
