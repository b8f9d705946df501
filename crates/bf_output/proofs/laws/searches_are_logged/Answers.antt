use Rattle.bf_output.proofs.Logged.{logged}
use Rattle.bf_output.proofs.laws.searches_are_logged.Goals as goal

pub returns : goal.returns
returns c = logged
