use Rattle.bf_serve.proofs.LawsNeedless.{are_needless}
use Rattle.bf_serve.proofs.laws.the_needless_are_those_without_a_path.Goals as goal

pub returns : goal.returns
returns c = λ m g over. are_needless m g over
