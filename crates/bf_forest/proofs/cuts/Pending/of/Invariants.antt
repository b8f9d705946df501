use Rattle.std.proofs.Common.{◌≡◌, take}
use Rattle.bf_forest.proofs.cuts.Pending.of.Given as goal

abbrev pub invariant-loop-edit : goal.invariant-loop-edit
invariant-loop-edit l = l.pending ≡ take l.edit-index l.edits
