use Rattle.bf_serve.proofs.LawsKeeping.{rest_as_without}
use Rattle.bf_serve.proofs.laws.refusals_are_left_out.Goals as goal

pub returns : goal.returns
returns c = λ history files searches line text lines h. rest_as_without history files searches line text lines h
