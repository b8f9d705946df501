use Rattle.std.proofs.Common.{suc, ◌+◌}
use Rattle.bf_forest.specs.Files.{edited}
use Rattle.bf_forest.specs.Opened.{heft}
use Rattle.bf_forest.specs.Rests.{slots_in}
use Rattle.bf_forest.specs.Trees.{files_at}
use Rattle.bf_forest.proofs.Walking.{IsStacked, height}
use Rattle.bf_forest.proofs.pool.Trees.settle.Given as goal

abbrev pub decreases-loop-top : goal.decreases-loop-top
decreases-loop-top l = height l.self.table l.below.items + suc (heft (slots_in l.self.table l.top.rest))

abbrev pub invariant-loop-top : goal.invariant-loop-top
invariant-loop-top l = IsStacked l.fn.self (edited (files_at l.fn.self.trees l.fn.tree) l.fn.edits) l.below.items l.self l.top
