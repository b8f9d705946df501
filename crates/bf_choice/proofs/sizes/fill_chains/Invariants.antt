use Rattle.bf_choice.specs.Sizes.{SizesKnown}
use Rattle.bf_choice.proofs.sizes.fill_chains.Given as goal

abbrev pub invariant-loop-place : goal.invariant-loop-place
invariant-loop-place l = SizesKnown l.graph l.place l.sizes
