use Rattle.std.proofs.Common.{suc, length, arith}
use Rattle.bf_grammar.specs.Place.{start_of}
use Rattle.bf_grammar.proofs.Laws.{some_continuation}
use Rattle.bf_grammar.proofs.law.some_reading.Goals as goal

pub returns : goal.returns
returns c = λ bytes limits. some_continuation limits (suc (length (start_of limits.stream bytes).rest)) (start_of limits.stream bytes) (omega arith)
