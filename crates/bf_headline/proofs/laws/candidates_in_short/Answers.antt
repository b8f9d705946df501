use Rattle.bf_headline.proofs.Reaching.{candidates-is}
use Rattle.bf_headline.specs.Links.{standing_of}
use Rattle.bf_headline.proofs.laws.candidates_in_short.Goals as goal

pub returns : goal.returns
returns c = λ graph s bad. candidates-is graph (standing_of s bad)
