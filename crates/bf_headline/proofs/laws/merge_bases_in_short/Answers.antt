use Rattle.bf_headline.proofs.Reaching.{merge_bases-is}
use Rattle.bf_headline.specs.Links.{standing_of}
use Rattle.bf_headline.proofs.laws.merge_bases_in_short.Goals as goal

pub returns : goal.returns
returns c = λ graph s bad. merge_bases-is graph (standing_of s bad)
