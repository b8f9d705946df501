use Rattle.bf_grammar.specs.Commands.{header_at}
use Rattle.bf_stream.proofs.Chains.{reads_then, reads_stopped, reads_pure, reads_handed_on}
use Rattle.bf_stream.proofs.reader.Reader.header.Goals as goal

pub returns-in_err-original : goal.returns-in_err-original
unfolding header_at
returns-in_err-original g c =
    reads_handed_on _ c.from_residual.ensures.1 (reads_stopped _ c.in_err-original.ensures)

pub returns-in_err-author : goal.returns-in_err-author
unfolding header_at
returns-in_err-author g c =
    reads_handed_on _ c.from_residual-in_err-author.ensures.1 (reads_then _ c.in_ok-original.ensures (reads_stopped _ c.in_err-author.ensures))

pub returns-in_err-committer : goal.returns-in_err-committer
unfolding header_at
returns-in_err-committer g c =
    reads_handed_on _ c.from_residual-in_err-committer.ensures.1
    (reads_then _ c.in_ok-original.ensures (reads_then _ c.in_ok-author.ensures (reads_stopped _ c.in_err-committer.ensures)))

pub returns-in_err-encoding : goal.returns-in_err-encoding
unfolding header_at
returns-in_err-encoding g c =
    reads_handed_on _ c.from_residual-in_err-encoding.ensures.1
    (reads_then _ c.in_ok-original.ensures (reads_then _ c.in_ok-author.ensures
    (reads_then _ c.in_ok-committer.ensures (reads_stopped _ c.in_err-encoding.ensures))))

pub returns-in_err-no_signature : goal.returns-in_err-no_signature
unfolding header_at
returns-in_err-no_signature g c =
    reads_handed_on _ c.from_residual-in_err-no_signature.ensures.1
    (reads_then _ c.in_ok-original.ensures (reads_then _ c.in_ok-author.ensures (reads_then _ c.in_ok-committer.ensures
    (reads_then _ c.in_ok-encoding.ensures (reads_stopped _ c.in_err-no_signature.ensures)))))

pub returns-in_err-message : goal.returns-in_err-message
unfolding header_at
returns-in_err-message g c =
    reads_handed_on _ c.from_residual-in_err-message.ensures.1
    (reads_then _ c.in_ok-original.ensures (reads_then _ c.in_ok-author.ensures (reads_then _ c.in_ok-committer.ensures
    (reads_then _ c.in_ok-encoding.ensures (reads_then _ c.in_ok-no_signature.ensures (reads_stopped _ c.in_err-message.ensures))))))

pub returns : goal.returns
unfolding header_at
returns g c =
    reads_then _ c.in_ok-original.ensures (reads_then _ c.in_ok-author.ensures (reads_then _ c.in_ok-committer.ensures
    (reads_then _ c.in_ok-encoding.ensures (reads_then _ c.in_ok-no_signature.ensures (reads_then _ c.in_ok-message.ensures (reads_pure _ _ _ _))))))
