use Rattle.bf_headline.proofs.Runs.{asked_marked}
use Rattle.bf_headline.proofs.laws.mark_in_short.Goals as goal

pub returns : goal.returns
returns c = λ graph s bad m p g over bad_is some h. (asked_marked graph s bad m p g over bad_is some h).same
