use Rattle.bf_state.proofs.Legal.{events_append}
use Rattle.bf_state.proofs.farms.events_go_on.Goals as goal

pub returns : goal.returns
returns c = λ setting farm first second. events_append setting farm first second
