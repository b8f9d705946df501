use Rattle.std.proofs.Common.{sym}
use Rattle.bf_headline.proofs.Choosing.{value_of-is}
use Rattle.bf_headline.proofs.laws.value_in_short.Goals as goal

pub returns : goal.returns
returns c = λ graph s bad p is_left. sym (value_of-is graph s bad p is_left)
