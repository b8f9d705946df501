-- count_block
use Rattle.std.proofs.Common.{arith}
use Rattle.bf_choice.proofs.MergeCounts.{CountsBlock-start, CountsBlock-end}
use Rattle.bf_choice.proofs.merges.count_block.Goals as goal

pub loop-place-init : goal.loop-place-init
loop-place-init c = (c.clear.ensures, CountsBlock-start _ c.args.start _ c.requires.graph c.requires.counted)

pub returns-clause-rows : goal.returns-clause-rows
returns-clause-rows c = c.loop-place.invariant.0.fits

pub returns-clause-counted : goal.returns-clause-counted
returns-clause-counted c = CountsBlock-end _ _ _ _ (omega arith) c.loop-place.invariant.1
