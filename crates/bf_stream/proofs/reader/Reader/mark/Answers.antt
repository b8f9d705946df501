use Rattle.std.proofs.Common.{codes, sym, ap, Err}
use Rattle.bf_grammar.specs.Commands.{mark_at}
use Rattle.bf_grammar.specs.Forms.{mark_of}
use Rattle.bf_stream.proofs.Chains.{reads_handed_on}
use Rattle.bf_stream.proofs.Lines.{optional_stopped, optional_absent, optional_refused, optional_taken, at_true, line_is}
use Rattle.bf_stream.proofs.reader.Reader.mark.Goals as goal

pub returns-in_err-at_word : goal.returns-in_err-at_word
unfolding mark_at
returns-in_err-at_word g c =
    reads_handed_on _ c.from_residual.ensures.1 (optional_stopped (codes "mark") mark_of c.in_err-at_word.ensures.reads)

pub returns-then-not-branch : goal.returns-then-not-branch
unfolding mark_at
returns-then-not-branch g c =
    optional_absent (codes "mark") mark_of (rw c.if-not-branch.true at c.in_ok-at_word.ensures.reads)

pub returns-in_err-mark : goal.returns-in_err-mark
unfolding mark_at
returns-in_err-mark g c =
    let held = at_true _ _ c.if-not-branch.false c.in_ok-at_word.ensures.line in
    let is = line_is g.S.Source.left c.at_word.new.self c.line_number.result c.line.result.now c.line_number.ensures.number (c.line.ensures.text held) in
    reads_handed_on _ c.from_residual-in_err-mark.ensures.1
    (optional_refused (codes "mark") mark_of c.line_number.result c.line.result.now c.in_err-mark.field-0.0
    (rw c.if-not-branch.false at c.in_ok-at_word.ensures.reads) is (sym c.in_err-mark.ensures.value) (λ e. c.in_err-mark.ensures.own.0 (ap (λ y. Err y) e)))

pub returns : goal.returns
unfolding mark_at
returns g c =
    let held = at_true _ _ c.if-not-branch.false c.in_ok-at_word.ensures.line in
    let is = line_is g.S.Source.left c.at_word.new.self c.line_number.result c.line.result.now c.line_number.ensures.number (c.line.ensures.text held) in
    optional_taken (codes "mark") mark_of c.line_number.result c.line.result.now c.in_ok-mark.mark (rw c.if-not-branch.false at c.in_ok-at_word.ensures.reads)
    is (sym c.in_ok-mark.ensures.value) (c.take_line.ensures.line held).reads
