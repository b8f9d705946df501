use Rattle.bf_state.proofs.Tables.{seq_ends_alike}
use Rattle.bf_state.proofs.laws.longer_tables_end_alike.Goals as goal

pub returns : goal.returns
returns c = λ graph s known more k part h. seq_ends_alike graph s known more k part h
