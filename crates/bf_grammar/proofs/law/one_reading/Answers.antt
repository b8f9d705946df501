use Rattle.bf_grammar.specs.Place.{start_of}
use Rattle.bf_grammar.proofs.Laws.{one_continuation}
use Rattle.bf_grammar.proofs.law.one_reading.Goals as goal

pub returns : goal.returns
returns c = λ bytes limits commands others end other_end. one_continuation limits commands others end other_end (start_of limits.stream bytes)
