use Rattle.bf_headline.proofs.Asks.{ask-is}
use Rattle.bf_headline.proofs.laws.ask_in_short.Goals as goal

pub returns : goal.returns
returns c = λ graph s bad g within bad_is some. ask-is graph g s bad within bad_is some
