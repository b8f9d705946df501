use Rattle.bf_headline.proofs.Reaching.{reaches-is}
use Rattle.bf_headline.proofs.laws.reach_in_short.Goals as goal

pub returns : goal.returns
returns c = λ graph p q i. reaches-is graph i p q
