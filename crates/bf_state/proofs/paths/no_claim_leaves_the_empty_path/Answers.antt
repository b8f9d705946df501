use Rattle.bf_state.proofs.Turns.{unclaimed_is_open}
use Rattle.bf_state.proofs.paths.no_claim_leaves_the_empty_path.Goals as goal

pub returns : goal.returns
returns c = λ graph known s p h k. unclaimed_is_open graph known s p h k
