use Rattle.std.proofs.Common.{◌≡◌, ℕ, ◌<◌, [], length, sym, ap, ◌∙◌, true, subst, List}
use Rattle.bf_forest.specs.Nodes.{World, node_of, nodes_of, trees_from, stood, files_in, is_node, are_within}
use Rattle.bf_forest.proofs.Pooled.{node_within, numbered_in}
use Rattle.bf_forest.proofs.Tabled.{length-nodes, node-at, kept_within_at}
use Rattle.bf_forest.specs.declared.nodes.Entry.{Entry}
use Rattle.bf_forest.specs.Trees.{files_at}
use Rattle.bf_forest.proofs.pool.Trees.node.Goals as goal

pub index-requires : goal.index-requires
index-requires c =
    let table = c.self.inside.table in
    let kept = c.self.inside.nodes.items in
    let nodes = nodes_of table kept in
    let trees = c.args.self.now.trees in
    let view : trees_from [] nodes ≡ trees = ap (λ (w : World). w.trees) c.self.view_is in
    node_within nodes trees c.args.number c.self.inside.nodes.len view (c.self.inside.nodes.ok.0 ∙ sym (length-nodes table kept)) c.requires

pub returns-clause-files : goal.returns-clause-files
returns-clause-files c =
    let table = c.self.inside.table in
    let kept = c.self.inside.nodes.items in
    let nodes = nodes_of table kept in
    let trees = c.args.self.now.trees in
    let view : trees_from [] nodes ≡ trees = ap (λ (w : World). w.trees) c.self.view_is in
    let numbers = c.index.result.now.numbers in
    let P : List Entry → Type 0 = λ v. files_in trees (stood v numbers) ≡ files_at trees c.args.number in
    subst P (ap (λ (w : World). w.table) c.self.view_is)
    (numbered_in nodes trees c.args.number (node_of table c.index.result.now) c.self.invariant.2 view c.requires
    (node-at table kept c.args.number c.index.result.now c.index.ensures)).0

pub returns-clause-node : goal.returns-clause-node
returns-clause-node c =
    let table = c.self.inside.table in
    let kept = c.self.inside.nodes.items in
    let nodes = nodes_of table kept in
    let trees = c.args.self.now.trees in
    let view : trees_from [] nodes ≡ trees = ap (λ (w : World). w.trees) c.self.view_is in
    let numbers = c.index.result.now.numbers in
    let P : List Entry → Type 0 = λ v. is_node trees (stood v numbers) ≡ true in
    subst P (ap (λ (w : World). w.table) c.self.view_is)
    (numbered_in nodes trees c.args.number (node_of table c.index.result.now) c.self.invariant.2 view c.requires
    (node-at table kept c.args.number c.index.result.now c.index.ensures)).1

pub returns-clause-within : goal.returns-clause-within
returns-clause-within c =
    let table = c.self.inside.table in
    let kept = c.self.inside.nodes.items in
    let nodes = nodes_of table kept in
    let trees = c.args.self.now.trees in
    let view : trees_from [] nodes ≡ trees = ap (λ (w : World). w.trees) c.self.view_is in
    let numbers = c.index.result.now.numbers in
    let P : List Entry → Type 0 = λ v. are_within (length v) numbers ≡ true in
    let less = node_within nodes trees c.args.number c.self.inside.nodes.len view (c.self.inside.nodes.ok.0 ∙ sym (length-nodes table kept)) c.requires in
    subst P (ap (λ (w : World). w.table) c.self.view_is)
    (kept_within_at (length table) kept c.args.number c.index.result.now c.self.invariant.3 (subst (λ (n : ℕ). c.args.number < n) c.self.inside.nodes.ok.0 less)
    c.index.ensures)
