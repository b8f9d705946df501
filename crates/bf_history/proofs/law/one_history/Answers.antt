use Rattle.bf_history.proofs.Alike.{loads_alike}
use Rattle.bf_history.proofs.law.one_history.Goals as goal

pub returns : goal.returns
returns c = λ bytes limits result furnishes. loads_alike bytes limits result furnishes
