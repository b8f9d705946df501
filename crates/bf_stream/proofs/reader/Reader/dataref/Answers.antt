use Rattle.std.proofs.Common.{sym}
use Rattle.bf_grammar.specs.declared.command.ContentForm.TheVariants as content
use Rattle.bf_grammar.specs.declared.command.DataRef.TheVariants as dataref
use Rattle.bf_grammar.specs.Place.{pure}
use Rattle.bf_stream.specs.Parts.{content_named}
use Rattle.bf_stream.proofs.Chains.{reads_then, reads_stopped, reads_pure, reads_handed_on}
use Rattle.bf_stream.proofs.Lines.{reads_of}
use Rattle.bf_stream.proofs.reader.Reader.dataref.Goals as goal

pub returns-in_err-data-in-Inline : goal.returns-in_err-data-in-Inline
returns-in_err-data-in-Inline g c =
    reads_handed_on _ c.from_residual.ensures.1 (reads_of content_named content.Inline c.args.form (sym c.in-Inline.is)
    (reads_stopped (λ bytes _. pure (dataref.Inline bytes)) c.in_err-data-in-Inline.ensures))

pub returns-in-Mark : goal.returns-in-Mark
returns-in-Mark g c = reads_of content_named (content.Mark c.in-Mark.mark) c.args.form (sym c.in-Mark.is) (reads_pure _ _ _ _)

pub returns-in-Name : goal.returns-in-Name
returns-in-Name g c = reads_of content_named (content.Name c.in-Name.name) c.args.form (sym c.in-Name.is) (reads_pure _ _ _ _)

pub returns-in_ok-data-in-Inline : goal.returns-in_ok-data-in-Inline
returns-in_ok-data-in-Inline g c =
    reads_of content_named content.Inline c.args.form (sym c.in-Inline.is)
    (reads_then (λ bytes _. pure (dataref.Inline bytes)) c.in_ok-data-in-Inline.ensures (reads_pure _ _ _ _))
