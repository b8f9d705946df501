use Rattle.std.proofs.Common.{◌≡◌, false, take}
use Rattle.std.specs.List.{list_any}
use Rattle.bf_forest.specs.Trees.{are_same}
use Rattle.bf_forest.proofs.pool.Trees.search.Given as goal

abbrev pub invariant-loop-number : goal.invariant-loop-number
invariant-loop-number l = list_any (λ tree. are_same tree l.files) (take l.number l.self.trees) ≡ false
