use Rattle.bf_reach.proofs.RowSteps.{first_true}
use Rattle.bf_reach.proofs.row.Row.first.Goals as goal

pub returns : goal.returns
returns c = first_true c.args.self.now c.next_from.result c.next_from.ensures.next
