use Rattle.bf_certify.proofs.Accepted.{certificates_told}
use Rattle.bf_certify.proofs.laws.certificates_are_told.Goals as goal

pub returns : goal.returns
returns c = certificates_told
