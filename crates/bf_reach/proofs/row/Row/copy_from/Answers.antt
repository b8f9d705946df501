use Rattle.std.proofs.Common.{sym, ◌∙◌}
use Rattle.bf_reach.proofs.Joined.{zip2_right}
use Rattle.bf_reach.proofs.row.Row.copy_from.Goals as goal

pub returns : goal.returns
returns c = c.join.ensures ∙ sym (zip2_right c.args.self.now c.args.other.now c.requires)
