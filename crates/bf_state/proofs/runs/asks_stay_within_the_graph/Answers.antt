use Rattle.bf_state.proofs.Legs.{asked_over}
use Rattle.bf_state.proofs.runs.asks_stay_within_the_graph.Goals as goal

pub returns : goal.returns
returns c = λ graph s g over. asked_over graph s g over
