use Rattle.std.proofs.Common.{◌*◌}
use Rattle.bf_choice.specs.BlockRows.{FitsGraph}
use Rattle.bf_choice.specs.Sizes.{CountsMerges}
use Rattle.bf_choice.proofs.merges.count_merges.Given as goal

abbrev pub invariant-loop-block : goal.invariant-loop-block
invariant-loop-block l = FitsGraph l.graph l.rows × CountsMerges l.graph (l.block * 512) l.sizes
