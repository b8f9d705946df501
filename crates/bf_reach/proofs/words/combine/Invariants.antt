use Rattle.std.proofs.Common.{◌*◌}
use Rattle.bf_reach.proofs.Joined.{Joined}
use Rattle.bf_reach.proofs.words.combine.Given as goal

abbrev pub invariant-loop-block : goal.invariant-loop-block
invariant-loop-block g l = Joined g.O.BitOp.combine l.fn.into l.from l.into (l.block * 8)

abbrev pub invariant-loop-at : goal.invariant-loop-at
invariant-loop-at g l = Joined g.O.BitOp.combine l.fn.into l.from l.into l.at
