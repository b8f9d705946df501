use Rattle.bf_state.proofs.Shrinking.{left-along}
use Rattle.bf_state.proofs.paths.candidates_never_grow.Goals as goal

pub returns : goal.returns
returns c = λ graph known s ms p left g h. left-along graph known s ms p left g h
