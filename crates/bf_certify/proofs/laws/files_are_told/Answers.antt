use Rattle.bf_certify.proofs.Accepted.{files_told}
use Rattle.bf_certify.proofs.laws.files_are_told.Goals as goal

pub returns : goal.returns
returns c = files_told
