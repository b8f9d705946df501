use Rattle.std.proofs.Common.{Bool, false, rules}
use Rattle.std.specs.Prelude.{if◌then◌else◌}
use Rattle.bf_grammar.specs.declared.fault.Limits.{Limits}
use Rattle.bf_grammar.specs.Place.{Reading, pure, ◌>>=◌}
use Rattle.bf_grammar.specs.Lines.{next_front, missing, must_be_at}
use Rattle.bf_stream.proofs.Chains.{advances_stopped, reads_as, reads_then, reads_stopped, reads_pure, reads_handed_on}
use Rattle.bf_stream.proofs.Looking.{missing_given, missing_failed}
use Rattle.bf_stream.proofs.cursor.Cursor.must_be_at.Goals as goal

-- what follows, by whether the word is there
abbrev next : Bool → Limits → Reading (Unit {0})
next there limits = if there then pure tt else (next_front false limits >>= missing)

pub returns-in_err-at_word-clause-reads : goal.returns-in_err-at_word-clause-reads
unfolding must_be_at
returns-in_err-at_word-clause-reads g c = reads_handed_on _ c.from_residual.ensures.1 (reads_stopped next c.in_err-at_word.ensures.reads)

pub returns-then-branch-clause-reads : goal.returns-then-branch-clause-reads
unfolding must_be_at
returns-then-branch-clause-reads g c =
    reads_then next (rw c.if-branch.true at c.in_ok-at_word.ensures.reads) (reads_pure g.S.Source.left g.S.Source.faults c.at_word.new.self tt)

pub returns-in_err-ahead-clause-reads : goal.returns-in_err-ahead-clause-reads
unfolding must_be_at
returns-in_err-ahead-clause-reads g c =
    let found = c.in_err-ahead.ensures in
    reads_then next (rw c.if-branch.false at c.in_ok-at_word.ensures.reads)
    (reads_handed_on _ c.from_residual-in_err-ahead.ensures.1
    (reads_as (missing_failed c.at_word.new.self.limits _ _ _ c.next_front.new.self.window (g.S.Source.left c.next_front.new.self.source.now) found.front)
    (advances_stopped found.advances) found.beyond))

pub returns-clause-reads : goal.returns-clause-reads
unfolding must_be_at
returns-clause-reads g c =
    reads_then next (rw c.if-branch.false at c.in_ok-at_word.ensures.reads)
    (reads_as (missing_given c.at_word.new.self.limits _ c.next_front.new.self.window (g.S.Source.left c.next_front.new.self.source.now) c.in_ok-ahead.ahead
    c.line_number.result _ c.in_ok-ahead.ensures.front c.line_number.ensures.number c.tell_missing.ensures) (search rules) c.in_ok-ahead.ensures.beyond)
