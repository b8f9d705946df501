use Rattle.bf_search.proofs.Reaching.{reaches_decides}
use Rattle.bf_search.proofs.laws.reach_is_by_a_path.Goals as goal

pub returns : goal.returns
returns c = λ graph p q g. reaches_decides graph p q g
