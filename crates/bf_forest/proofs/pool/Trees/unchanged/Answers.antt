use Rattle.std.proofs.Common.{◌≡◌, [], ap}
use Rattle.bf_forest.specs.Nodes.{World, nodes_of, trees_from}
use Rattle.bf_forest.specs.Trees.{with_directories}
use Rattle.bf_forest.proofs.Pooled.{closed_in, directories_there}
use Rattle.bf_forest.proofs.pool.Trees.unchanged.Goals as goal

pub returns-clause-joined : goal.returns-clause-joined
unfolding with_directories
returns-clause-joined c =
    let table = c.self.inside.table in
    let kept = c.self.inside.nodes.items in
    let nodes = nodes_of table kept in
    let trees = c.args.self.now.trees in
    let view : trees_from [] nodes ≡ trees = ap (λ (w : World). w.trees) c.self.view_is in
    directories_there trees c.args.tree (closed_in nodes trees c.self.invariant.2 view) c.requires
