use Rattle.bf_state.proofs.Causes.{used_are_marked}
use Rattle.bf_state.proofs.runs.used_outcomes_are_marked.Goals as goal

pub returns : goal.returns
returns c = λ graph known left s e. used_are_marked known graph left s e
