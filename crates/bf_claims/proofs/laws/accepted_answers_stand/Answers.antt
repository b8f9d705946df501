use Rattle.bf_claims.proofs.Standing.{answer_stands}
use Rattle.bf_claims.proofs.laws.accepted_answers_stand.Goals as goal

pub returns : goal.returns
returns c = answer_stands
