use Rattle.std.proofs.Common.{sym, ◌∙◌, arith}
use Rattle.bf_forest.specs.Trees.{files_at}
use Rattle.bf_forest.proofs.Sameness.{same_files}
use Rattle.bf_forest.proofs.pool.Trees.search.Goals as goal

pub returns-then-branch : goal.returns-then-branch
returns-then-branch c = (
  omega (arith, c.loop-number-test.true, c.len-number-end.ensures),
  same_files (files_at c.args.self.now.trees c.loop-number.number) c.args.files.now (sym c.in_ok-has_files.ensures ∙ c.if-branch.true),
)
