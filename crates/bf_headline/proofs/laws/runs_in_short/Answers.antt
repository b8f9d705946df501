use Rattle.bf_headline.proofs.Beginning.{ready}
use Rattle.bf_headline.proofs.Telling.{run_in_short}
use Rattle.bf_headline.proofs.laws.runs_in_short.Goals as goal

pub returns : goal.returns
returns c = λ request words file tested history first told loaded begins is.
    run_in_short history first (ready request words file history first loaded begins) request tested told is
