use Rattle.bf_replay.specs.Kept.{commits_of}
use Rattle.bf_replay.proofs.Replayable.{history_kept, replayable}
use Rattle.bf_log.proofs.Whole.{gives_back}
use Rattle.bf_replay.specs.Meaning.{setting_of}
use Rattle.bf_replay.proofs.laws.logs_give_the_state_back.Goals as goal

pub returns : goal.returns
returns c = λ history sides b known left s later before loaded g terms ends are led.
    gives_back (setting_of history) (commits_of history) sides b (replayable history sides b (history_kept history loaded) terms ends)
    known left s later before g are led
