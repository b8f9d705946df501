use Rattle.bf_grammar.specs.Commands.{modify_at}
use Rattle.bf_stream.proofs.Chains.{reads_handed_on}
use Rattle.std.proofs.Common.{◌∙◌, ap, Err}
use Rattle.bf_grammar.specs.Forms.{modify_form}
use Rattle.bf_stream.proofs.Starts.{modify_next, modify_stopped, modify_read}
use Rattle.bf_stream.proofs.Lines.{line_is, line_refused, line_read}
use Rattle.bf_stream.proofs.reader.Reader.modify.Goals as goal

pub returns-in_err-read-clause-reads : goal.returns-in_err-read-clause-reads
unfolding modify_at
returns-in_err-read-clause-reads g c =
    let is = line_is g.S.Source.left c.args.self.now.cursor c.line_number-line.result c.line.result.now c.line_number-line.ensures.number
    (c.line.ensures.text c.requires) in
    reads_handed_on _ c.from_residual.ensures.1 (line_refused modify_form modify_next c.line_number-line.result c.line.result.now c.in_err-read.field-0.0 is
    c.in_err-read.ensures.value (λ e. c.in_err-read.ensures.own.0 (ap (λ y. Err y) e)))

pub returns-in_err-dataref-clause-reads : goal.returns-in_err-dataref-clause-reads
unfolding modify_at
returns-in_err-dataref-clause-reads g c =
    let is = line_is g.S.Source.left c.args.self.now.cursor c.line_number-line.result c.line.result.now c.line_number-line.ensures.number
    (c.line.ensures.text c.requires) in
    reads_handed_on _ c.from_residual-in_err-dataref.ensures.1
    (line_read modify_form modify_next c.line_number-line.result c.line.result.now (c.in_ok-read.read.mode, c.in_ok-read.read.content) is
    c.in_ok-read.ensures.value.0 (modify_stopped c.line_number-line.result c.line.result.now c.in_ok-read.read.mode c.in_ok-read.read.content
    (c.take_line.ensures.line c.requires).reads c.in_err-dataref.ensures))

pub returns-clause-reads : goal.returns-clause-reads
unfolding modify_at
returns-clause-reads g c =
    let is = line_is g.S.Source.left c.args.self.now.cursor c.line_number-line.result c.line.result.now c.line_number-line.ensures.number
    (c.line.ensures.text c.requires) in
    line_read modify_form modify_next c.line_number-line.result c.line.result.now (c.in_ok-read.read.mode, c.in_ok-read.read.content) is
    c.in_ok-read.ensures.value.0 (modify_read c.line_number-line.result c.line.result.now c.in_ok-read.read.mode c.in_ok-read.read.content
    (c.take_line.ensures.line c.requires).reads c.in_ok-path.path (c.in_ok-path.ensures ∙ c.in_ok-read.ensures.value.1) c.in_ok-dataref.ensures)
