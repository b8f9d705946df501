use Rattle.bf_state.proofs.Legal.{place_without_claims}
use Rattle.bf_state.proofs.farms.no_claim_leaves_a_place.Goals as goal

pub returns : goal.returns
returns c = λ setting table p e. place_without_claims setting table p e
