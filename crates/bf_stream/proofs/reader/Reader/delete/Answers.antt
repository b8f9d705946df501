use Rattle.bf_grammar.specs.Commands.{delete_at}
use Rattle.bf_stream.proofs.Chains.{reads_handed_on}
use Rattle.std.proofs.Common.{codes, sym, ◌∙◌, ap, Ok, Err, List, ℕ}
use Rattle.bf_grammar.specs.Forms.{text_after}
use Rattle.bf_stream.proofs.Starts.{delete_next}
use Rattle.bf_stream.proofs.Lines.{line_is, line_refused, line_read, line_alone}
use Rattle.bf_stream.proofs.reader.Reader.delete.Goals as goal

pub returns-in_err-text-clause-reads : goal.returns-in_err-text-clause-reads
unfolding delete_at
returns-in_err-text-clause-reads g c =
    let is = line_is g.S.Source.left c.args.self.now.cursor c.line_number-line.result c.line.result.now c.line_number-line.ensures.number
    (c.line.ensures.text c.requires) in
    reads_handed_on _ c.from_residual.ensures.1 (line_refused (λ line. text_after line (codes "D")) delete_next c.line_number-line.result c.line.result.now
    c.in_err-text.field-0.0 is c.in_err-text.ensures.value (λ e. c.in_err-text.ensures.own.0 (ap (λ y. Err y) e)))

pub returns-clause-reads : goal.returns-clause-reads
unfolding delete_at
returns-clause-reads g c =
    let is = line_is g.S.Source.left c.args.self.now.cursor c.line_number-line.result c.line.result.now c.line_number-line.ensures.number
    (c.line.ensures.text c.requires) in
    line_read (λ line. text_after line (codes "D")) delete_next c.line_number-line.result c.line.result.now c.in_ok-path.path is
    (c.in_ok-text.ensures.value ∙ ap (λ (t : List ℕ). Ok t) (sym c.in_ok-path.ensures)) (line_alone _ (c.take_line.ensures.line c.requires).reads)
