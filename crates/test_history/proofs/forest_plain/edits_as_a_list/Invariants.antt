use Rattle.std.proofs.Common.{◌<◌, length}
use Rattle.test_history.proofs.forest_plain.edits_as_a_list.Given as goal

abbrev pub invariant-loop-path : goal.invariant-loop-path
invariant-loop-path g l = l.tree < length l.forest.trees
