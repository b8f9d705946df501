use Rattle.std.proofs.Common.{sym, ◌∙◌}
use Rattle.bf_reach.proofs.RowSteps.{raised_same, raised_other, lowered_same, lowered_other}
use Rattle.bf_reach.proofs.words.set.Goals as goal

pub returns-then-value-clause-same : goal.returns-then-value-clause-same
returns-then-value-clause-same c = raised_same c.args.words.now c.args.place c.requires ∙ sym c.if-value.true

pub returns-then-value-clause-others : goal.returns-then-value-clause-others
returns-then-value-clause-others c = λ k other. raised_other c.args.words.now c.args.place k c.requires other

pub returns-else-value-clause-same : goal.returns-else-value-clause-same
returns-else-value-clause-same c = lowered_same c.args.words.now c.args.place c.requires ∙ sym c.if-value.false

pub returns-else-value-clause-others : goal.returns-else-value-clause-others
returns-else-value-clause-others c = λ k other. lowered_other c.args.words.now c.args.place k c.requires other
