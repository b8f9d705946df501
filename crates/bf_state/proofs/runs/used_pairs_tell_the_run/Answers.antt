use Rattle.bf_state.proofs.Used.{pairs_tell}
use Rattle.bf_state.proofs.runs.used_pairs_tell_the_run.Goals as goal

pub returns : goal.returns
returns c = λ graph known left s. pairs_tell graph known left s
