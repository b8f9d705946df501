use Rattle.bf_headline.proofs.Runs.{verdict-is}
use Rattle.bf_headline.proofs.laws.verdict_in_short.Goals as goal

pub returns : goal.returns
returns c = λ outcome. verdict-is outcome
