use Rattle.bf_state.proofs.Halves.{run_halves}
use Rattle.bf_state.proofs.runs.halving.Goals as goal

pub returns : goal.returns
returns c = λ graph known left s g over passed unskipped line all some. run_halves graph known g left s over passed unskipped line all some
