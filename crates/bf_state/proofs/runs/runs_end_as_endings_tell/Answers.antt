use Rattle.bf_state.proofs.Causes.{ends_well}
use Rattle.bf_state.proofs.runs.runs_end_as_endings_tell.Goals as goal

pub returns : goal.returns
returns c = λ graph known left s ends. ends_well graph known left s ends
