use Rattle.bf_output.proofs.Logged.{given_back_told}
use Rattle.bf_output.proofs.laws.told_runs_give_back.Goals as goal

pub returns : goal.returns
returns c = given_back_told
