use Rattle.std.proofs.Common.{sym}
use Rattle.bf_headline.proofs.Choosing.{best-is}
use Rattle.bf_headline.proofs.laws.best_in_short.Goals as goal

pub returns : goal.returns
returns c = λ graph s bad. sym (best-is graph s bad)
