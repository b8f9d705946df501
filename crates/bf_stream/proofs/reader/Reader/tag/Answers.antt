use Rattle.bf_grammar.specs.Commands.{tag_at}
use Rattle.bf_stream.proofs.Chains.{reads_then, reads_stopped, reads_pure, reads_handed_on}
use Rattle.bf_stream.proofs.reader.Reader.tag.Goals as goal

pub returns-in_err-mark : goal.returns-in_err-mark
unfolding tag_at
returns-in_err-mark g c =
    reads_handed_on _ c.from_residual.ensures.1 (reads_stopped _ c.in_err-mark.ensures)

pub returns-in_err-from : goal.returns-in_err-from
unfolding tag_at
returns-in_err-from g c =
    reads_handed_on _ c.from_residual-in_err-from.ensures.1 (reads_then _ c.in_ok-mark.ensures (reads_stopped _ c.in_err-from.ensures))

pub returns-in_err-original_oid : goal.returns-in_err-original_oid
unfolding tag_at
returns-in_err-original_oid g c =
    reads_handed_on _ c.from_residual-in_err-original_oid.ensures.1
    (reads_then _ c.in_ok-mark.ensures (reads_then _ c.in_ok-from.ensures (reads_stopped _ c.in_err-original_oid.ensures)))

pub returns-in_err-optional_ident : goal.returns-in_err-optional_ident
unfolding tag_at
returns-in_err-optional_ident g c =
    reads_handed_on _ c.from_residual-in_err-optional_ident.ensures.1
    (reads_then _ c.in_ok-mark.ensures (reads_then _ c.in_ok-from.ensures
    (reads_then _ c.in_ok-original_oid.ensures (reads_stopped _ c.in_err-optional_ident.ensures))))

pub returns-in_err-data : goal.returns-in_err-data
unfolding tag_at
returns-in_err-data g c =
    reads_handed_on _ c.from_residual-in_err-data.ensures.1
    (reads_then _ c.in_ok-mark.ensures (reads_then _ c.in_ok-from.ensures
    (reads_then _ c.in_ok-original_oid.ensures (reads_then _ c.in_ok-optional_ident.ensures (reads_stopped _ c.in_err-data.ensures)))))

pub returns : goal.returns
unfolding tag_at
returns g c =
    reads_then _ c.in_ok-mark.ensures (reads_then _ c.in_ok-from.ensures
    (reads_then _ c.in_ok-original_oid.ensures (reads_then _ c.in_ok-optional_ident.ensures (reads_then _ c.in_ok-data.ensures (reads_pure _ _ _ _)))))
