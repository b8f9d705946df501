use Rattle.std.proofs.Common.{sym, ◌∙◌, inl, inr, arith}
use borrow.Author.Tests.{ltb-true}
use Rattle.bf_reading.proofs.Splitting.{ends_in_front}
use Rattle.bf_reading.proofs.words.take_word.Goals as goal
use Rattle.bf_reading.proofs.words.take_word.Goals.{then-rest-lt1, in-len1-up+else-not-is_blank}

pub returns-clause-words : goal.returns-clause-words
returns-clause-words c =
    c.loop-rest.invariant.words
    ∙ ends_in_front c.loop-rest.word c.loop-rest.rest.now (elim c.if-rest-lt1.branch [
      | then-rest-lt1 w ↦ inl (omega (arith, ltb-true))
      | in-len1-up+else-not-is_blank w ↦ inr (omega arith, sym w.is_blank.ensures ∙ w.if-not-is_blank.false)
    ])
