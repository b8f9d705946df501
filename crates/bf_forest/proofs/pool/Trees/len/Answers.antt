use Rattle.std.proofs.Common.{◌≡◌, [], length, ap, arith}
use Rattle.bf_forest.specs.Nodes.{World, nodes_of, trees_from}
use Rattle.bf_forest.proofs.Pooled.{length-trees}
use Rattle.bf_forest.proofs.Tabled.{length-nodes}
use Rattle.bf_forest.proofs.pool.Trees.len.Goals as goal

pub returns : goal.returns
returns c =
    let table = c.self.inside.table in
    let kept = c.self.inside.nodes.items in
    let nodes = nodes_of table kept in
    let trees = c.args.self.now.trees in
    let view : trees_from [] nodes ≡ trees = ap (λ (w : World). w.trees) c.self.view_is in
    omega (arith, ap length view, length-trees [] nodes, length-nodes table kept, c.self.inside.nodes.ok.0, c.len.ensures)
