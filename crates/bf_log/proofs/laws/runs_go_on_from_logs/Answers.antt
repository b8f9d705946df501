use Rattle.bf_log.proofs.Whole.{goes_on}
use Rattle.bf_log.proofs.laws.runs_go_on_from_logs.Goals as goal

pub returns : goal.returns
returns c = λ setting commits sides b known s later before part rest m p given g over are led is. goes_on setting
    commits sides b given known s later before part rest m p g over are led is
