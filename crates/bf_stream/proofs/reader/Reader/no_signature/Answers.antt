use Rattle.bf_grammar.specs.Commands.{no_signature_at}
use Rattle.bf_stream.proofs.Chains.{reads_then, reads_stopped, reads_pure, reads_handed_on}
use Rattle.bf_stream.proofs.Lines.{refused_here}
use Rattle.bf_stream.proofs.reader.Reader.no_signature.Goals as goal

pub returns-in_err-at_word : goal.returns-in_err-at_word
unfolding no_signature_at
returns-in_err-at_word g c =
    reads_handed_on _ c.from_residual.ensures.1 (reads_stopped _ c.in_err-at_word.ensures.reads)

pub returns-then-branch : goal.returns-then-branch
unfolding no_signature_at
returns-then-branch g c =
    reads_then _ (rw c.if-branch.true at c.in_ok-at_word.ensures.reads)
    (refused_here g.S.Source.left g.S.Source.faults c.at_word.new.self c.line_number.result c.line_number.ensures.number)

pub returns : goal.returns
unfolding no_signature_at
returns g c =
    reads_then _ (rw c.if-branch.false at c.in_ok-at_word.ensures.reads) (reads_pure _ _ _ _)
