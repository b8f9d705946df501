use Rattle.std.proofs.Common.{arith}
use Rattle.bf_choice.proofs.MergeCounts.{SizesKnown-start, SizesKnown-all}
use Rattle.bf_choice.proofs.sizes.fill_chains.Goals as goal

pub loop-place-init : goal.loop-place-init
loop-place-init c = SizesKnown-start _ _ c.requires

pub returns-clause-sizes : goal.returns-clause-sizes
returns-clause-sizes c = SizesKnown-all _ _ _ (omega arith) c.loop-place.invariant
