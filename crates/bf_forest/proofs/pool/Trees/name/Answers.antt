use Rattle.std.proofs.Common.{◌≡◌, [], sym, ap, ◌∙◌}
use Rattle.bf_forest.specs.Nodes.{World, node_of, nodes_of, trees_from}
use Rattle.bf_forest.proofs.Pooled.{node_within, numbered_in}
use Rattle.bf_forest.proofs.Tabled.{length-nodes, node-at}
use Rattle.bf_forest.proofs.pool.Trees.name.Goals as goal

pub index-requires : goal.index-requires
index-requires c =
    let table = c.self.inside.table in
    let kept = c.self.inside.nodes.items in
    let nodes = nodes_of table kept in
    let trees = c.args.self.now.trees in
    let view : trees_from [] nodes ≡ trees = ap (λ (w : World). w.trees) c.self.view_is in
    node_within nodes trees c.args.number c.self.inside.nodes.len view (c.self.inside.nodes.ok.0 ∙ sym (length-nodes table kept)) c.requires

pub returns : goal.returns
returns c =
    let table = c.self.inside.table in
    let kept = c.self.inside.nodes.items in
    let nodes = nodes_of table kept in
    let trees = c.args.self.now.trees in
    let view : trees_from [] nodes ≡ trees = ap (λ (w : World). w.trees) c.self.view_is in
    (numbered_in nodes trees c.args.number (node_of table c.index.result.now) c.self.invariant.2 view c.requires
    (node-at table kept c.args.number c.index.result.now c.index.ensures)).3
