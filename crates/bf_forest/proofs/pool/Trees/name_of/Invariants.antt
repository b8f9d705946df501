use Rattle.std.proofs.Common.{◌≡◌, take}
use Rattle.bf_forest.specs.Nodes.{body_of, stood}
use Rattle.bf_forest.proofs.pool.Trees.name_of.Given as goal

abbrev pub invariant-loop-number : goal.invariant-loop-number
invariant-loop-number l = l.body ≡ body_of l.self.trees (stood l.self.table (take l.number-index l.number-items))
