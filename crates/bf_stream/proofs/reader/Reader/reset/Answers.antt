use Rattle.bf_grammar.specs.Commands.{reset_at}
use Rattle.bf_stream.proofs.Chains.{reads_then, reads_stopped, reads_pure, reads_handed_on}
use Rattle.bf_stream.proofs.reader.Reader.reset.Goals as goal

pub returns-in_err-from : goal.returns-in_err-from
unfolding reset_at
returns-in_err-from g c =
    reads_handed_on _ c.from_residual.ensures.1 (reads_stopped _ c.in_err-from.ensures.reads)

pub returns : goal.returns
unfolding reset_at
returns g c =
    reads_then _ c.in_ok-from.ensures.reads (reads_pure _ _ _ _)
