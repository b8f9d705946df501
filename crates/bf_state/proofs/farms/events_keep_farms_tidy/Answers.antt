use Rattle.bf_state.proofs.Legal.{events_keep_tidy}
use Rattle.bf_state.proofs.farms.events_keep_farms_tidy.Goals as goal

pub returns : goal.returns
returns c = λ setting farm next events tidy e. events_keep_tidy setting farm next events tidy e
