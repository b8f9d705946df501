use Rattle.bf_search.specs.Run.{run}
use Rattle.bf_state.proofs.runs.same_outcomes_same_run.Goals as goal

pub returns : goal.returns
returns c = λ graph known more left s same. λ i. run graph (λ p. same p i) left s
