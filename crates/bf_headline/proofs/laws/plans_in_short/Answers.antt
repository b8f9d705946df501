use Rattle.bf_headline.proofs.Beginning.{ready}
use Rattle.bf_headline.proofs.Telling.{plan_in_short}
use Rattle.bf_headline.proofs.laws.plans_in_short.Goals as goal

pub returns : goal.returns
returns c = λ request words file history first told loaded begins is.
    plan_in_short history first (ready request words file history first loaded begins) request words told is
