use Rattle.std.proofs.Common.{true, set, ap, ◌∙◌}
use Rattle.bf_names.proofs.Ranging.{row_of-set}
use Rattle.bf_names.proofs.range.row_of.Goals as goal

pub returns-clause-value : goal.returns-clause-value
returns-clause-value c = c.set.ensures ∙ ap (λ row. set row c.args.place true) c.in_ok-row.ensures ∙ row_of-set c.args.len c.args.place c.requires
