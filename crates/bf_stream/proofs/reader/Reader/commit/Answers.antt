use Rattle.bf_grammar.specs.Commands.{commit_at}
use Rattle.bf_stream.proofs.Chains.{reads_then, reads_stopped, reads_pure, reads_handed_on}
use Rattle.bf_stream.proofs.reader.Reader.commit.Goals as goal

pub returns-in_err-mark : goal.returns-in_err-mark
unfolding commit_at
returns-in_err-mark g c =
    reads_handed_on _ c.from_residual.ensures.1 (reads_stopped _ c.in_err-mark.ensures)

pub returns-in_err-header : goal.returns-in_err-header
unfolding commit_at
returns-in_err-header g c =
    reads_handed_on _ c.from_residual-in_err-header.ensures.1
    (reads_then _ c.in_ok-mark.ensures (reads_stopped _ c.in_err-header.ensures))

pub returns-in_err-from : goal.returns-in_err-from
unfolding commit_at
returns-in_err-from g c =
    reads_handed_on _ c.from_residual-in_err-from.ensures.1
    (reads_then _ c.in_ok-mark.ensures (reads_then _ c.in_ok-header.ensures (reads_stopped _ c.in_err-from.ensures.reads)))

pub returns-in_err-merges : goal.returns-in_err-merges
unfolding commit_at
returns-in_err-merges g c =
    reads_handed_on _ c.from_residual-in_err-merges.ensures.1
    (reads_then _ c.in_ok-mark.ensures (reads_then _ c.in_ok-header.ensures (reads_then _ c.in_ok-from.ensures.reads (reads_stopped _ c.in_err-merges.ensures))))

pub returns-in_err-changes : goal.returns-in_err-changes
unfolding commit_at
returns-in_err-changes g c =
    reads_handed_on _ c.from_residual-in_err-changes.ensures.1
    (reads_then _ c.in_ok-mark.ensures (reads_then _ c.in_ok-header.ensures (reads_then _ c.in_ok-from.ensures.reads
    (reads_then _ c.in_ok-merges.ensures (reads_stopped _ c.in_err-changes.ensures)))))

pub returns : goal.returns
unfolding commit_at
returns g c =
    reads_then _ c.in_ok-mark.ensures (reads_then _ c.in_ok-header.ensures (reads_then _ c.in_ok-from.ensures.reads
    (reads_then _ c.in_ok-merges.ensures (reads_then _ c.in_ok-changes.ensures (reads_pure _ _ _ _)))))
