use Rattle.bf_state.proofs.Rows.{mask-asked, weights-asked, needed-asked}
use Rattle.bf_state.proofs.masks.an_ask_changes_no_candidate.Goals as goal

pub returns-clause-mask : goal.returns-clause-mask
returns-clause-mask c = λ graph s. mask-asked graph s

pub returns-clause-weights : goal.returns-clause-weights
returns-clause-weights c = λ graph s. weights-asked graph s

pub returns-clause-needed : goal.returns-clause-needed
returns-clause-needed c = λ graph s. needed-asked graph s
