use Rattle.std.proofs.Common.{codes, sym, ◌∙◌, ap, Ok, Err, List, ℕ}
use Rattle.bf_grammar.specs.Commands.{encoding_at}
use Rattle.bf_grammar.specs.Forms.{encoding_of}
use Rattle.bf_stream.proofs.Chains.{reads_handed_on}
use Rattle.bf_stream.proofs.Lines.{optional_stopped, optional_absent, optional_refused, optional_taken, at_true, line_is}
use Rattle.bf_stream.proofs.reader.Reader.encoding.Goals as goal

pub returns-in_err-at_word : goal.returns-in_err-at_word
unfolding encoding_at
returns-in_err-at_word g c =
    reads_handed_on _ c.from_residual.ensures.1 (optional_stopped (codes "encoding") encoding_of c.in_err-at_word.ensures.reads)

pub returns-then-not-branch : goal.returns-then-not-branch
unfolding encoding_at
returns-then-not-branch g c =
    optional_absent (codes "encoding") encoding_of (rw c.if-not-branch.true at c.in_ok-at_word.ensures.reads)

pub returns-in_err-text : goal.returns-in_err-text
unfolding encoding_at
returns-in_err-text g c =
    let held = at_true _ _ c.if-not-branch.false c.in_ok-at_word.ensures.line in
    let is = line_is g.S.Source.left c.at_word.new.self c.line_number.result c.line.result.now c.line_number.ensures.number (c.line.ensures.text held) in
    reads_handed_on _ c.from_residual-in_err-text.ensures.1
    (optional_refused (codes "encoding") encoding_of c.line_number.result c.line.result.now c.in_err-text.field-0.0
    (rw c.if-not-branch.false at c.in_ok-at_word.ensures.reads) is c.in_err-text.ensures.value (λ e. c.in_err-text.ensures.own.0 (ap (λ y. Err y) e)))

pub returns : goal.returns
unfolding encoding_at
returns g c =
    let held = at_true _ _ c.if-not-branch.false c.in_ok-at_word.ensures.line in
    let is = line_is g.S.Source.left c.at_word.new.self c.line_number.result c.line.result.now c.line_number.ensures.number (c.line.ensures.text held) in
    optional_taken (codes "encoding") encoding_of c.line_number.result c.line.result.now c.in_ok-encoding.encoding
    (rw c.if-not-branch.false at c.in_ok-at_word.ensures.reads) is (c.in_ok-text.ensures.value ∙ ap (λ (t : List ℕ). Ok t) (sym c.in_ok-encoding.ensures))
    (c.take_line.ensures.line held).reads
