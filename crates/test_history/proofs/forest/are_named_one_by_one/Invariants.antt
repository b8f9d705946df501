use Rattle.std.proofs.Common.{◌<◌, length}
use Rattle.test_history.proofs.forest.are_named_one_by_one.Given as goal

abbrev pub invariant-loop-path : goal.invariant-loop-path
invariant-loop-path g l = l.tree < length l.forest.trees
