use Rattle.bf_certify.proofs.Accepted.{are_checked}
use Rattle.bf_certify.proofs.laws.checks_are_right.Goals as goal

pub returns : goal.returns
returns c = are_checked
