use Rattle.bf_serve.proofs.LawsTelling.{logs_are_told}
use Rattle.bf_serve.proofs.laws.what_is_told_is_the_log.Goals as goal

pub returns : goal.returns
returns c = λ history files lines. logs_are_told history files lines
