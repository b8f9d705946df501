use Rattle.bf_choice.proofs.Weighed.{length-mask}
use Rattle.test_search.proofs.weights.agreed.Goals as goal

pub weights_plain-requires : goal.weights_plain-requires
weights_plain-requires c = length-mask _ _ _ c.in_ok-mask.ensures.mask
