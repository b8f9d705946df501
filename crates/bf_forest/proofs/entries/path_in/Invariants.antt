use Rattle.std.proofs.Common.{◌≡◌, take}
use Rattle.bf_forest.proofs.entries.path_in.Given as goal

abbrev pub invariant-loop-directory : goal.invariant-loop-directory
invariant-loop-directory l = l.components.items ≡ take l.directory-index l.names
