use Rattle.bf_state.proofs.Rows.{mask-skipped, weights-skipped}
use Rattle.bf_state.proofs.masks.a_skip_changes_no_candidate.Goals as goal

pub returns-clause-mask : goal.returns-clause-mask
returns-clause-mask c = λ graph s p. mask-skipped graph s p

pub returns-clause-weights : goal.returns-clause-weights
returns-clause-weights c = λ graph s p. weights-skipped graph s p
