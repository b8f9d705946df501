use Rattle.std.proofs.Common.{sym, ◌∙◌, ap, subst, Ok, Err}
use Rattle.bf_grammar.specs.declared.command.DataForm.TheVariants.{Counted, Delimited}
use Rattle.bf_grammar.specs.Forms.{data_form, delimiter_in}
use Rattle.bf_forms.specs.declared.parts.DataLine.{DataLine}
use Rattle.bf_forms.specs.DataLines.{form_in, DelimiterIs}
use Rattle.bf_stream.specs.Cursor.{delimited_by}
use Rattle.bf_stream.proofs.Chains.{reads_handed_on}
use Rattle.bf_stream.proofs.Lines.{line_is, reads_of}
use Rattle.bf_stream.proofs.Starts.{announced_refused, announced_read}
use Rattle.bf_stream.proofs.reader.Reader.content.Goals as goal

pub returns-in_err-count : goal.returns-in_err-count
returns-in_err-count g c =
    let is = line_is g.S.Source.left c.args.self.now.cursor c.line_number-line.result c.line.result.now c.line_number-line.ensures.number
    (c.line.ensures.text c.requires) in
    reads_handed_on _ c.from_residual.ensures.1
    (announced_refused c.line_number-line.result c.line.result.now is c.in_err-count.field-0.0
    (ap (λ limits. data_form limits c.line_number-line.result c.line.result.now) (sym c.limits-limits.ensures.limits) ∙ c.in_err-count.ensures.value)
    (λ e. c.in_err-count.ensures.own.0 (ap (λ y. Err y) e)))

pub returns-in-Counted : goal.returns-in-Counted
returns-in-Counted g c =
    let is = line_is g.S.Source.left c.args.self.now.cursor c.line_number-line.result c.line.result.now c.line_number-line.ensures.number
    (c.line.ensures.text c.requires) in
    announced_read c.line_number-line.result c.line.result.now is (Counted c.in-Counted.count)
    (ap (λ limits. data_form limits c.line_number-line.result c.line.result.now) (sym c.limits-limits.ensures.limits) ∙
    (c.in_ok-count.ensures.value.0 ∙ ap (λ (read : DataLine). Ok (form_in read)) c.in-Counted.is))
    (c.take_line.ensures.line c.requires).reads c.take_bytes.ensures

pub returns-in_ok-delimiter-in-Delimited : goal.returns-in_ok-delimiter-in-Delimited
returns-in_ok-delimiter-in-Delimited g c =
    let is = line_is g.S.Source.left c.args.self.now.cursor c.line_number-line.result c.line.result.now c.line_number-line.ensures.number
    (c.line.ensures.text c.requires) in
    let text = c.line.result.now in
    let delimiter = c.as_slice.ensures ∙ (c.in_ok-delimiter-in-Delimited.ensures ∙ subst (λ (read : DataLine). DelimiterIs text read) c.in-Delimited.is
    c.in_ok-count.ensures.value.1) in
    announced_read c.line_number-line.result text is Delimited
    (ap (λ limits. data_form limits c.line_number-line.result c.line.result.now) (sym c.limits-limits.ensures.limits) ∙
    (c.in_ok-count.ensures.value.0 ∙ ap (λ (read : DataLine). Ok (form_in read)) c.in-Delimited.is))
    (c.take_line-in-Delimited.ensures.line c.requires).reads
    (reads_of (delimited_by c.line_number-line.result) c.as_slice.result.now (delimiter_in text) delimiter c.take_delimited.ensures)
