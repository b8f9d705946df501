use Rattle.bf_search.specs.Run.{leg_of}
use Rattle.bf_state.proofs.Tables.{run_follows}
use Rattle.bf_state.proofs.laws.runs_go_on.Goals as goal

pub returns : goal.returns
returns c = λ graph s known more k g over part h. run_follows graph known more g part (leg_of k) s over h
