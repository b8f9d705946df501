use Rattle.std.proofs.Common.{◌<◌, length}
use Rattle.bench.proofs.forest.edit_each.Given as goal

abbrev pub invariant-loop-number : goal.invariant-loop-number
invariant-loop-number l = l.tree < length l.forest.trees
