use Rattle.std.proofs.Common.{arith}
use Rattle.bf_reach.proofs.Lowest.{none_in_word, next_in_word, within_word}
use Rattle.bf_reach.proofs.words.lowest_from.Goals as goal

pub returns-then-rest-eq0-clause-next : goal.returns-then-rest-eq0-clause-next
returns-then-rest-eq0-clause-next c = none_in_word c.args.word c.args.low c.if-rest-eq0.true

pub returns-else-rest-eq0-clause-next : goal.returns-else-rest-eq0-clause-next
returns-else-rest-eq0-clause-next c = next_in_word c.args.word c.args.low (omega arith) (omega arith)

pub returns-else-rest-eq0-clause-within : goal.returns-else-rest-eq0-clause-within
returns-else-rest-eq0-clause-within c = within_word c.args.word c.args.low (omega arith) (omega arith)
