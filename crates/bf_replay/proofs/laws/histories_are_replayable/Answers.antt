use Rattle.bf_replay.proofs.Replayable.{history_kept, replayable}
use Rattle.bf_replay.proofs.laws.histories_are_replayable.Goals as goal

pub returns : goal.returns
returns c = λ history sides b loaded s e. replayable history sides b (history_kept history loaded) s e
