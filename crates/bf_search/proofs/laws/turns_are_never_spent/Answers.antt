use Rattle.bf_search.proofs.Turns.{run-is}
use Rattle.bf_search.proofs.laws.turns_are_never_spent.Goals as goal

pub returns : goal.returns
returns c = λ graph known left s g over. run-is graph known left s g over
