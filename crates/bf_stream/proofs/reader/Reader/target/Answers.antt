use Rattle.bf_grammar.specs.Commands.{target_at}
use Rattle.bf_stream.proofs.Chains.{reads_then, reads_stopped, reads_pure, reads_handed_on}
use Rattle.bf_stream.proofs.reader.Reader.target.Goals as goal

pub returns-in_err-at_word-clause-reads : goal.returns-in_err-at_word-clause-reads
unfolding target_at
returns-in_err-at_word-clause-reads g c =
    reads_handed_on _ c.from_residual.ensures.1 (reads_stopped _ c.in_err-at_word.ensures.reads)

pub returns-then-not-branch-clause-reads : goal.returns-then-not-branch-clause-reads
unfolding target_at
returns-then-not-branch-clause-reads g c =
    reads_then _ (rw c.if-not-branch.true at c.in_ok-at_word.ensures.reads) (reads_pure _ _ _ _)

pub returns-in_err-target_in_front-clause-reads : goal.returns-in_err-target_in_front-clause-reads
unfolding target_at
returns-in_err-target_in_front-clause-reads g c =
    reads_handed_on _ c.from_residual-in_err-target_in_front.ensures.1
    (reads_then _ (rw c.if-not-branch.false at c.in_ok-at_word.ensures.reads) (reads_stopped _ c.in_err-target_in_front.ensures.reads))

pub returns-clause-reads : goal.returns-clause-reads
unfolding target_at
returns-clause-reads g c =
    reads_then _ (rw c.if-not-branch.false at c.in_ok-at_word.ensures.reads) (reads_then _ c.in_ok-target_in_front.ensures.reads (reads_pure _ _ _ _))
