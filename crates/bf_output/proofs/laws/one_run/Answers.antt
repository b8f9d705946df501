use Rattle.bf_output.proofs.Runs.{run_told}
use Rattle.bf_output.proofs.laws.one_run.Goals as goal

pub returns : goal.returns
returns c = run_told
