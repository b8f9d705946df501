use Rattle.std.proofs.Common.{length, ap, ◌∙◌}
use Rattle.bf_names.proofs.Ranging.{length-row_between, row_between-zip2}
use Rattle.bf_names.proofs.range.row_between.Goals as goal

pub returns-clause-value : goal.returns-clause-value
returns-clause-value c = row_between-zip2 _ _ _ _ _ _ c.fill_row.ensures.row c.fill_row-2.ensures.row c.and_not.ensures

pub returns-clause-len : goal.returns-clause-len
returns-clause-len c = ap length (returns-clause-value c) ∙ length-row_between c.args.reach.now c.args.from c.args.to
