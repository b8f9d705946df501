use Rattle.bf_replay.proofs.Replayable.{file_of_history}
use Rattle.bf_replay.proofs.laws.files_give_the_state_back.Goals as goal

pub returns : goal.returns
returns c = file_of_history
