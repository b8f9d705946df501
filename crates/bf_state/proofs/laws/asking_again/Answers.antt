use Rattle.bf_state.proofs.AskAgain.{ask_again}
use Rattle.bf_state.proofs.laws.asking_again.Goals as goal

pub returns : goal.returns
returns c = λ graph s. ask_again graph s
