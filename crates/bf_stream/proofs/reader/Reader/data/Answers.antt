use Rattle.bf_grammar.specs.Commands.{data_at}
use Rattle.bf_stream.proofs.Chains.{reads_then, reads_stopped, reads_pure, reads_handed_on}
use Rattle.bf_stream.proofs.reader.Reader.data.Goals as goal

pub returns-in_err-must_be_at : goal.returns-in_err-must_be_at
unfolding data_at
returns-in_err-must_be_at g c =
    reads_handed_on _ c.from_residual.ensures.1 (reads_stopped _ c.in_err-must_be_at.ensures.reads)

pub returns-in_err-bytes : goal.returns-in_err-bytes
unfolding data_at
returns-in_err-bytes g c =
    reads_handed_on _ c.from_residual-in_err-bytes.ensures.1 (reads_then _ c.in_ok-must_be_at.ensures.reads (reads_stopped _ c.in_err-bytes.ensures))

pub returns-in_err-skip_end_of_line : goal.returns-in_err-skip_end_of_line
unfolding data_at
returns-in_err-skip_end_of_line g c =
    reads_handed_on _ c.from_residual-in_err-skip_end_of_line.ensures.1
    (reads_then _ c.in_ok-must_be_at.ensures.reads (reads_then _ c.in_ok-bytes.ensures (reads_stopped _ c.in_err-skip_end_of_line.ensures)))

pub returns : goal.returns
unfolding data_at
returns g c =
    reads_then _ c.in_ok-must_be_at.ensures.reads (reads_then _ c.in_ok-bytes.ensures (reads_then _ c.in_ok-skip_end_of_line.ensures (reads_pure _ _ _ _)))
