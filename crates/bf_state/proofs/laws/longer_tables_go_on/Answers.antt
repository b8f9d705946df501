use Rattle.bf_state.proofs.Tables.{seq_goes_on}
use Rattle.bf_state.proofs.laws.longer_tables_go_on.Goals as goal

pub returns : goal.returns
returns c = λ graph s known more k part. seq_goes_on graph s known more k part
