use Rattle.bf_output.proofs.Returning.{log_gives_back}
use Rattle.bf_output.proofs.laws.logs_give_back.Goals as goal

pub returns : goal.returns
returns c = log_gives_back
