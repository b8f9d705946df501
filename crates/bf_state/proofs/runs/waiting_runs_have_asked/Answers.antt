use Rattle.bf_state.proofs.Causes.{open_has_asked}
use Rattle.bf_state.proofs.runs.waiting_runs_have_asked.Goals as goal

pub returns : goal.returns
returns c = λ graph known left s p e. open_has_asked graph known left s p e
