use Rattle.std.proofs.Common.{sym, ◌∙◌, arith}
use borrow.Author.Tests.{ltb-true}
use Rattle.bf_reading.proofs.Splitting.{blank_in_front, nothing_in_front, no_blank_in_front}
use Rattle.bf_reading.proofs.words.past_blanks.Goals as goal

pub loop-rest-preserved : goal.loop-rest-preserved
loop-rest-preserved c = blank_in_front c.loop-rest.rest.now (omega arith) (sym c.is_blank.ensures ∙ c.if-is_blank.true) ∙ c.loop-rest.invariant

pub returns-then-rest-lt1 : goal.returns-then-rest-lt1
returns-then-rest-lt1 c = nothing_in_front c.loop-rest.rest.now (omega (arith, ltb-true)) ∙ c.loop-rest.invariant

pub returns-else-is_blank : goal.returns-else-is_blank
returns-else-is_blank c = no_blank_in_front c.loop-rest.rest.now (omega arith) (sym c.is_blank.ensures ∙ c.if-is_blank.false) ∙ c.loop-rest.invariant
