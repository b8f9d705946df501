use Rattle.bf_state.proofs.Rows.{mask-bad}
use Rattle.bf_state.proofs.masks.candidates_after_bad.Goals as goal

pub returns : goal.returns
returns c = λ graph s q g h. mask-bad graph s q g h
