use Rattle.std.proofs.Common.{sym, ◌∙◌, inl, inr, arith}
use borrow.Author.Tests.{ltb-true}
use Rattle.bf_reading.proofs.Splitting.{escaped_in_front, not_escaped}
use Rattle.bf_reading.proofs.words.take_escaped.Goals as goal
use Rattle.bf_reading.proofs.words.take_escaped.Goals.{else-text-lt1-via-then-text-lt1, else-text-lt1-via-in-len1-up+else-is_escaped}

pub returns-clause-words : goal.returns-clause-words
returns-clause-words c = escaped_in_front c.args.word.now c.push.new.self c.args.text.now (omega arith) (sym c.is_escaped.ensures ∙ c.if-is_escaped.true)
    c.in_ok-push.ensures.ok

pub returns-2-clause-words : goal.returns-2-clause-words
returns-2-clause-words c =
    not_escaped c.args.word.now c.push-2.new.self c.args.text.now (elim c.else-text-lt1.branch [
      | else-text-lt1-via-then-text-lt1 w ↦ inl (omega (arith, ltb-true))
      | else-text-lt1-via-in-len1-up+else-is_escaped w ↦ inr (sym w.is_escaped.ensures ∙ w.if-is_escaped.false)
    ])
    c.in_ok-push-2.ensures.ok
