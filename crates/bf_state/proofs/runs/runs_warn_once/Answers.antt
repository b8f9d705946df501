use Rattle.bf_state.proofs.Legs.{run_asked, asked_over}
use Rattle.bf_state.proofs.runs.runs_warn_once.Goals as goal

pub returns : goal.returns
returns c = λ graph known left s g over unspent. run_asked graph known left s g over (asked_over graph s g over) unspent
