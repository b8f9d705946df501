use Rattle.std.proofs.Common.{arith}
use Rattle.bf_reach.proofs.Lowest.{next_in_words}
use Rattle.bf_reach.proofs.words.lowest_of_words.Goals as goal

pub returns-then-words-at-ne0 : goal.returns-then-words-at-ne0
returns-then-words-at-ne0 c =
    next_in_words c.args.words.now c.args.first c.loop-at.at c.loop-at.invariant (omega arith) (omega arith) (omega (arith, c.type_inv.words c.loop-at.at))
