use Rattle.bf_grammar.specs.Commands.{author_at}
use Rattle.bf_stream.proofs.Chains.{reads_then, reads_stopped, reads_pure, reads_handed_on}
use Rattle.bf_stream.proofs.reader.Reader.optional_ident.Goals as goal

pub returns-in_err-at_word : goal.returns-in_err-at_word
unfolding author_at
returns-in_err-at_word g c =
    reads_handed_on _ c.from_residual.ensures.1 (reads_stopped _ c.in_err-at_word.ensures.reads)

pub returns-then-not-branch : goal.returns-then-not-branch
unfolding author_at
returns-then-not-branch g c =
    reads_then _ (rw c.if-not-branch.true at c.in_ok-at_word.ensures.reads) (reads_pure _ _ _ _)

pub returns-in_err-ident_in_front : goal.returns-in_err-ident_in_front
unfolding author_at
returns-in_err-ident_in_front g c =
    reads_handed_on _ c.from_residual-in_err-ident_in_front.ensures.1
    (reads_then _ (rw c.if-not-branch.false at c.in_ok-at_word.ensures.reads) (reads_stopped _ c.in_err-ident_in_front.ensures))

pub returns : goal.returns
unfolding author_at
returns g c =
    reads_then _ (rw c.if-not-branch.false at c.in_ok-at_word.ensures.reads) (reads_then _ c.in_ok-ident_in_front.ensures (reads_pure _ _ _ _))
