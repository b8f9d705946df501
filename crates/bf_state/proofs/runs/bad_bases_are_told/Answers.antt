use Rattle.bf_state.proofs.Causes.{bad_base_is_told}
use Rattle.bf_state.proofs.runs.bad_bases_are_told.Goals as goal

pub returns : goal.returns
returns c = λ graph s q g h unpassed. bad_base_is_told graph s q g h unpassed
