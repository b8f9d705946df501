use Rattle.bf_reach.proofs.RowSteps.{shown_length}
use Rattle.bf_reach.proofs.row.Row.len.Goals as goal

pub returns : goal.returns
returns c = shown_length c.self.inside.len c.self.inside.words.items c.args.self.now (record { holds = c.self.invariant; view = c.self.view_is })
