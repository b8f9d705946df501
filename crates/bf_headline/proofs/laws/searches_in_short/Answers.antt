use Rattle.bf_headline.proofs.Output.{output_in_short}
use Rattle.bf_headline.proofs.laws.searches_in_short.Goals as goal

pub returns : goal.returns
returns c = λ given bytes told asks is. output_in_short given bytes told asks is
