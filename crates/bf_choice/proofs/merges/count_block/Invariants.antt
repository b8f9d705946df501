use Rattle.bf_choice.specs.Sizes.{CountsBlock}
use Rattle.bf_choice.specs.BlockRows.{HasBlockRows}
use Rattle.bf_choice.proofs.merges.count_block.Given as goal

abbrev pub invariant-loop-place : goal.invariant-loop-place
invariant-loop-place l = HasBlockRows l.graph l.start l.place l.rows × CountsBlock l.graph l.start l.place l.sizes
