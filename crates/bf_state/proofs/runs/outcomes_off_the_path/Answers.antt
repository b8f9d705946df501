use Rattle.bf_state.proofs.Used.{off_the_path}
use Rattle.bf_state.proofs.runs.outcomes_off_the_path.Goals as goal

pub returns : goal.returns
returns c = λ graph known more left s p part h none. off_the_path graph known more left s p part h none
