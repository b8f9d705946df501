use Rattle.bf_log.proofs.EntryWalks.{run_tells}
use Rattle.bf_log.proofs.laws.entries_tell_the_state.Goals as goal

pub returns : goal.returns
returns c = λ graph known left s before. run_tells graph known left s before
