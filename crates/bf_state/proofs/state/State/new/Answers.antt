use Rattle.bf_state.proofs.Below.{below_begun}
use Rattle.bf_state.proofs.state.State.new.Goals as goal

pub invariant_of-result : goal.invariant_of-result
invariant_of-result c = rw (c.in_ok-goods.ensures, c.in_ok-skips.ensures) (below_begun _ _ _ _ c.requires.bad c.requires.goods)
