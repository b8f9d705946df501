use Rattle.bf_replay.specs.Kept.{commits_of}
use Rattle.bf_replay.proofs.Replayable.{history_kept, replayable}
use Rattle.bf_log.proofs.Cut.{text_goes_on}
use Rattle.bf_replay.specs.Meaning.{setting_of}
use Rattle.bf_replay.proofs.laws.runs_go_on_from_texts.Goals as goal

pub returns : goal.returns
returns c = λ history sides b known s later before front back loaded g terms ends over are both led is e.
    text_goes_on (setting_of history) (commits_of history) sides b known s later before front back
    (replayable history sides b (history_kept history loaded) terms ends) g over are both led is e
