use Rattle.bf_state.proofs.Rows.{mask-good}
use Rattle.bf_state.proofs.masks.candidates_after_good.Goals as goal

pub returns : goal.returns
returns c = λ graph s q g h. mask-good graph s q g h
