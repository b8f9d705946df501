use Rattle.bf_state.proofs.Legs.{run_follows}
use Rattle.bf_state.proofs.runs.open_runs_go_on.Goals as goal

pub returns : goal.returns
returns c = λ graph s known more left g over part e. run_follows graph known more g part left s over e
