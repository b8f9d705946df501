use Rattle.bf_state.proofs.Used.{same_used}
use Rattle.bf_state.proofs.runs.outcomes_that_tell_the_used_ones.Goals as goal

pub returns : goal.returns
returns c = λ graph known more left s tells. same_used known more graph left s tells
