use Rattle.bf_headline.proofs.Runs.{one_at_a_time-is}
use Rattle.bf_headline.proofs.laws.run_in_short.Goals as goal

pub returns : goal.returns
returns c = λ graph known s bad g over bad_is some. one_at_a_time-is graph known s bad g over bad_is some
