use Rattle.bf_serve.proofs.LawsKeeping.{refusal_keeps}
use Rattle.bf_serve.proofs.laws.refusals_change_nothing.Goals as goal

pub returns : goal.returns
returns c = λ history file searches line text h. refusal_keeps history file searches line text h
