use Rattle.bf_serve.proofs.LawsTelling.{needless_are_told}
use Rattle.bf_serve.proofs.laws.the_last_list_told_is_needless.Goals as goal

pub returns : goal.returns
returns c = λ history files lines. needless_are_told history files lines
