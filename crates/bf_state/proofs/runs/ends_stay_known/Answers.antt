use Rattle.bf_state.proofs.Causes.{ends_kept}
use Rattle.bf_state.proofs.runs.ends_stay_known.Goals as goal

pub returns : goal.returns
returns c = λ graph known left s ends. ends_kept graph known left s ends
