use Rattle.std.proofs.Common.{◌*◌, length, arith, subst}
use Rattle.bf_reach.proofs.Joined.{Joined, joined_lanes, joined_all}
use Rattle.bf_reach.proofs.words.combine.Goals as goal

pub loop-block-preserved : goal.loop-block-preserved
loop-block-preserved g c =
    rw c.combine_lanes.ensures (joined_lanes g.O.BitOp.combine c.args.into.now c.args.from.now c.loop-block.into (c.loop-block.block * 8) 8 _
    c.loop-block.invariant (omega arith) (omega arith) (omega arith))

pub returns-clause-joined : goal.returns-clause-joined
returns-clause-joined g c =
    let whole : Joined g.O.BitOp.combine c.args.into.now c.args.from.now c.loop-at.into (length c.args.into.now) = subst
    (λ n. Joined g.O.BitOp.combine c.args.into.now c.args.from.now c.loop-at.into n) (omega arith) c.loop-at.invariant in
    joined_all g.O.BitOp.combine c.args.into.now c.args.from.now c.loop-at.into whole (omega arith) (omega arith)
