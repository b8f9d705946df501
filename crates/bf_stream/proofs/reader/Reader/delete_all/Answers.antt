use Rattle.bf_grammar.specs.Commands.{delete_all_at}
use Rattle.bf_stream.proofs.Chains.{reads_handed_on}
use Rattle.std.proofs.Common.{sym, ap, Err}
use Rattle.bf_stream.proofs.Starts.{delete_all_form, delete_all_next}
use Rattle.bf_stream.proofs.Lines.{line_is, line_refused, line_read, line_alone}
use Rattle.bf_stream.proofs.reader.Reader.delete_all.Goals as goal

pub returns-in_err-delete_all_of-clause-reads : goal.returns-in_err-delete_all_of-clause-reads
unfolding delete_all_at
returns-in_err-delete_all_of-clause-reads g c =
    let is = line_is g.S.Source.left c.args.self.now.cursor c.line_number-line.result c.line.result.now c.line_number-line.ensures.number
    (c.line.ensures.text c.requires) in
    reads_handed_on _ c.from_residual.ensures.1 (line_refused delete_all_form delete_all_next c.line_number-line.result c.line.result.now
    c.in_err-delete_all_of.field-0.0 is (sym c.in_err-delete_all_of.ensures.value) (λ e. c.in_err-delete_all_of.ensures.own.0 (ap (λ y. Err y) e)))

pub returns-clause-reads : goal.returns-clause-reads
unfolding delete_all_at
returns-clause-reads g c =
    let is = line_is g.S.Source.left c.args.self.now.cursor c.line_number-line.result c.line.result.now c.line_number-line.ensures.number
    (c.line.ensures.text c.requires) in
    line_read delete_all_form delete_all_next c.line_number-line.result c.line.result.now tt is (sym c.in_ok-delete_all_of.ensures.value)
    (line_alone _ (c.take_line.ensures.line c.requires).reads)
