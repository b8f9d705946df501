use Rattle.bf_grammar.specs.Commands.{blob_at}
use Rattle.bf_stream.proofs.Chains.{reads_then, reads_stopped, reads_pure, reads_handed_on}
use Rattle.bf_stream.proofs.reader.Reader.blob.Goals as goal

pub returns-in_err-mark : goal.returns-in_err-mark
unfolding blob_at
returns-in_err-mark g c =
    reads_handed_on _ c.from_residual.ensures.1 (reads_stopped _ c.in_err-mark.ensures)

pub returns-in_err-original_oid : goal.returns-in_err-original_oid
unfolding blob_at
returns-in_err-original_oid g c =
    reads_handed_on _ c.from_residual-in_err-original_oid.ensures.1
    (reads_then _ c.in_ok-mark.ensures (reads_stopped _ c.in_err-original_oid.ensures))

pub returns-in_err-content : goal.returns-in_err-content
unfolding blob_at
returns-in_err-content g c =
    reads_handed_on _ c.from_residual-in_err-content.ensures.1
    (reads_then _ c.in_ok-mark.ensures (reads_then _ c.in_ok-original_oid.ensures (reads_stopped _ c.in_err-content.ensures)))

pub returns : goal.returns
unfolding blob_at
returns g c =
    reads_then _ c.in_ok-mark.ensures (reads_then _ c.in_ok-original_oid.ensures (reads_then _ c.in_ok-content.ensures (reads_pure _ _ _ _)))
