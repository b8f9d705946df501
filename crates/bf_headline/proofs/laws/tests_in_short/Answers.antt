use Rattle.bf_headline.proofs.Beginning.{ready}
use Rattle.bf_headline.proofs.Telling.{over_in_short}
use Rattle.bf_headline.proofs.laws.tests_in_short.Goals as goal

pub returns : goal.returns
returns c = λ request words file tested history first table legs loaded begins over planned.
    over_in_short history first (ready request words file history first loaded begins) request tested table legs over planned
