use Rattle.bf_state.proofs.Turns.{best_open-is}
use Rattle.bf_state.proofs.paths.turns_are_never_spent.Goals as goal

pub returns : goal.returns
returns c = λ graph known claims s g over. best_open-is graph known claims s g over
