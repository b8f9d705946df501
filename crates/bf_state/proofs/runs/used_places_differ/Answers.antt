use Rattle.bf_state.proofs.Used.{used_differ}
use Rattle.bf_state.proofs.runs.used_places_differ.Goals as goal

pub returns : goal.returns
returns c = λ graph known left s g over. used_differ graph known g left s over
