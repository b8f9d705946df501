use Rattle.bf_replay.proofs.Replayable.{history_kept}
use Rattle.bf_replay.proofs.laws.histories_are_kept.Goals as goal

pub returns : goal.returns
returns c = history_kept
