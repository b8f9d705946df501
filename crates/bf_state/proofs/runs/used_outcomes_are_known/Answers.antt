use Rattle.bf_state.proofs.Used.{told}
use Rattle.bf_state.proofs.runs.used_outcomes_are_known.Goals as goal

pub returns : goal.returns
returns c = λ graph known left s. told known graph left s
