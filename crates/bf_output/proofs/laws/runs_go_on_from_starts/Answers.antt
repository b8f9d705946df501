use Rattle.bf_output.proofs.Returning.{goes_on_from_start}
use Rattle.bf_output.proofs.laws.runs_go_on_from_starts.Goals as goal

pub returns : goal.returns
returns c = goes_on_from_start
