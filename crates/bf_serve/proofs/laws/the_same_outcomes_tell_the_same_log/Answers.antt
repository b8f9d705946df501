use Rattle.bf_serve.proofs.LawsDrivers.{same_log}
use Rattle.bf_serve.proofs.laws.the_same_outcomes_tell_the_same_log.Goals as goal

pub returns : goal.returns
returns c = λ history files shelf given said news others j k o p m n one other alike same.
    same_log history files shelf given said news others j k o p m n one other alike same
