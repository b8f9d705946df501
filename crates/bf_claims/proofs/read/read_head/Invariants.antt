use Rattle.std.proofs.Common.{◌≡◌, ◌+◌, ◌≤◌, length}
use Rattle.bf_cert.specs.Lines.{lines_of}
use Rattle.bf_claims.specs.Heads.{IsHead}
use Rattle.bf_claims.specs.Reading.{read_head}
use Rattle.bf_claims.proofs.read.read_head.Given as goal

-- the lines from here on are read with what was claimed so far
abbrev pub invariant-loop-line : goal.invariant-loop-line
invariant-loop-line l = record {
  rows : IsHead (length l.history.parents) l.head;
  same : read_head l.history.names l.history.parents 2 l.fn.head (lines_of l.below)
      ≡ read_head l.history.names l.history.parents l.before l.head (lines_of l.rest);
  from : 2 ≤ l.before;
  room : l.before + length l.rest ≤ 2 + length l.below;
}

abbrev pub decreases-loop-line : goal.decreases-loop-line
decreases-loop-line l = length l.rest
