use Rattle.std.proofs.Common.{◌*◌, arith}
use Rattle.bf_choice.proofs.MergeCounts.{CountsMerges-end}
use Rattle.bf_choice.proofs.merges.count_merges.Goals as goal

pub returns : goal.returns
returns c = CountsMerges-end c.args.graph.now (c.loop-block.block * 512) c.loop-block.sizes c.len.ensures.graph
    (omega (arith, c.div_ceil-block-end.ensures)) c.loop-block.invariant.1
