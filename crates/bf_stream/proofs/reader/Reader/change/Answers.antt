use Rattle.bf_grammar.specs.Commands.{change_at}
use Rattle.bf_stream.proofs.Chains.{reads_then, reads_stopped, reads_pure, reads_handed_on}
use Rattle.bf_stream.proofs.reader.Reader.change.Goals as goal

pub returns-in_err-at_word-clause-reads : goal.returns-in_err-at_word-clause-reads
unfolding change_at
returns-in_err-at_word-clause-reads g c =
    reads_handed_on _ c.from_residual.ensures.1 (reads_stopped _ c.in_err-at_word.ensures.reads)

pub returns-in_err-modify-clause-reads : goal.returns-in_err-modify-clause-reads
unfolding change_at
returns-in_err-modify-clause-reads g c =
    reads_handed_on _ c.from_residual-in_err-modify.ensures.1
    (reads_then _ (rw c.if-branch.true at c.in_ok-at_word.ensures.reads) (reads_stopped _ c.in_err-modify.ensures.reads))

pub returns-then-branch-clause-reads : goal.returns-then-branch-clause-reads
unfolding change_at
returns-then-branch-clause-reads g c =
    reads_then _ (rw c.if-branch.true at c.in_ok-at_word.ensures.reads) (reads_then _ c.in_ok-modify.ensures.reads (reads_pure _ _ _ _))

pub returns-in_err-at_word-2-clause-reads : goal.returns-in_err-at_word-2-clause-reads
unfolding change_at
returns-in_err-at_word-2-clause-reads g c =
    reads_handed_on _ c.from_residual-in_err-at_word-2.ensures.1
    (reads_then _ (rw c.if-branch.false at c.in_ok-at_word.ensures.reads) (reads_stopped _ c.in_err-at_word-2.ensures.reads))

pub returns-in_err-delete-clause-reads : goal.returns-in_err-delete-clause-reads
unfolding change_at
returns-in_err-delete-clause-reads g c =
    reads_handed_on _ c.from_residual-in_err-delete.ensures.1
    (reads_then _ (rw c.if-branch.false at c.in_ok-at_word.ensures.reads)
    (reads_then _ (rw c.if-branch-2.true at c.in_ok-at_word-2.ensures.reads) (reads_stopped _ c.in_err-delete.ensures.reads)))

pub returns-then-branch-2-clause-reads : goal.returns-then-branch-2-clause-reads
unfolding change_at
returns-then-branch-2-clause-reads g c =
    reads_then _ (rw c.if-branch.false at c.in_ok-at_word.ensures.reads)
    (reads_then _ (rw c.if-branch-2.true at c.in_ok-at_word-2.ensures.reads) (reads_then _ c.in_ok-delete.ensures.reads (reads_pure _ _ _ _)))

pub returns-in_err-at_word-3-clause-reads : goal.returns-in_err-at_word-3-clause-reads
unfolding change_at
returns-in_err-at_word-3-clause-reads g c =
    reads_handed_on _ c.from_residual-in_err-at_word-3.ensures.1
    (reads_then _ (rw c.if-branch.false at c.in_ok-at_word.ensures.reads)
    (reads_then _ (rw c.if-branch-2.false at c.in_ok-at_word-2.ensures.reads) (reads_stopped _ c.in_err-at_word-3.ensures.reads)))

pub returns-in_err-delete_all-clause-reads : goal.returns-in_err-delete_all-clause-reads
unfolding change_at
returns-in_err-delete_all-clause-reads g c =
    reads_handed_on _ c.from_residual-in_err-delete_all.ensures.1
    (reads_then _ (rw c.if-branch.false at c.in_ok-at_word.ensures.reads)
    (reads_then _ (rw c.if-branch-2.false at c.in_ok-at_word-2.ensures.reads)
    (reads_then _ (rw c.if-branch-3.true at c.in_ok-at_word-3.ensures.reads) (reads_stopped _ c.in_err-delete_all.ensures.reads))))

pub returns-then-branch-3-clause-reads : goal.returns-then-branch-3-clause-reads
unfolding change_at
returns-then-branch-3-clause-reads g c =
    reads_then _ (rw c.if-branch.false at c.in_ok-at_word.ensures.reads)
    (reads_then _ (rw c.if-branch-2.false at c.in_ok-at_word-2.ensures.reads)
    (reads_then _ (rw c.if-branch-3.true at c.in_ok-at_word-3.ensures.reads) (reads_then _ c.in_ok-delete_all.ensures.reads (reads_pure _ _ _ _))))

pub returns-clause-reads : goal.returns-clause-reads
unfolding change_at
returns-clause-reads g c =
    reads_then _ (rw c.if-branch.false at c.in_ok-at_word.ensures.reads)
    (reads_then _ (rw c.if-branch-2.false at c.in_ok-at_word-2.ensures.reads)
    (reads_then _ (rw c.if-branch-3.false at c.in_ok-at_word-3.ensures.reads) (reads_pure _ _ _ _)))
