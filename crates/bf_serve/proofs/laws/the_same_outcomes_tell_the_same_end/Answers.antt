use Rattle.bf_serve.proofs.LawsDrivers.{same_end}
use Rattle.bf_serve.proofs.laws.the_same_outcomes_tell_the_same_end.Goals as goal

pub returns : goal.returns
returns c = λ history files shelf given said news others j k o p m n one other alike same.
    same_end history files shelf given said news others j k o p m n one other alike same
