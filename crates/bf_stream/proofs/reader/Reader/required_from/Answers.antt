use Rattle.bf_grammar.specs.Commands.{from_at}
use Rattle.bf_stream.proofs.Chains.{reads_then, reads_stopped, reads_handed_on}
use Rattle.bf_stream.proofs.reader.Reader.required_from.Goals as goal

pub returns-in_err-must_be_at : goal.returns-in_err-must_be_at
unfolding from_at
returns-in_err-must_be_at g c =
    reads_handed_on _ c.from_residual.ensures.1 (reads_stopped _ c.in_err-must_be_at.ensures.reads)

pub returns : goal.returns
unfolding from_at
returns g c = reads_then _ c.in_ok-must_be_at.ensures.reads c.target_in_front.ensures.reads
