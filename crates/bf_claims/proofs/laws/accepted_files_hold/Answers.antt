use Rattle.bf_claims.proofs.Holding.{file_holds}
use Rattle.bf_claims.proofs.laws.accepted_files_hold.Goals as goal

pub returns : goal.returns
returns c = file_holds
