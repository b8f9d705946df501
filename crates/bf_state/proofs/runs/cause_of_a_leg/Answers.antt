use Rattle.bf_state.proofs.Causes.{leg_ends, leg_made}
use Rattle.bf_state.proofs.runs.cause_of_a_leg.Goals as goal

pub returns : goal.returns
returns c = λ graph known s k g over. (λ e. leg_ends graph known g s k over e, λ both. leg_made graph known g s k over both.0 both.1)
