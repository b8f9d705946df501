use Rattle.bf_serve.proofs.LawsTelling.{ends_are_told}
use Rattle.bf_serve.proofs.laws.what_is_told_is_the_end.Goals as goal

pub returns : goal.returns
returns c = λ history files lines. ends_are_told history files lines
