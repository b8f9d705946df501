use Rattle.std.proofs.Common.{◌≡◌, [], length, sym, ap, ◌∙◌}
use Rattle.std.proofs.lemmas.Bool.{iff_false}
use Rattle.bf_forest.specs.Nodes.{World, node_of, nodes_of, stood, trees_from, files_in, has_some}
use Rattle.bf_forest.specs.Slots.{base_files}
use Rattle.bf_forest.proofs.Added.{based_number, filled_joined}
use Rattle.bf_forest.proofs.Pooled.{node_within, numbered_in, some_files}
use Rattle.bf_forest.proofs.Tabled.{length-nodes, node-at, stood_none}
use Rattle.bf_forest.proofs.pool.Trees.filled.Goals as goal

pub index-requires : goal.index-requires
index-requires c =
    let now = c.args.self.now in
    let trees = now.trees in
    let table = c.self.inside.table in
    let kept = c.self.inside.nodes.items in
    let nodes = nodes_of table kept in
    let view : trees_from [] nodes ≡ trees = ap (λ (w : World). w.trees) c.self.view_is in
    let less = based_number (length trees) c.args.base c.in-Some.number c.in-Some.is c.requires in
    node_within nodes trees c.in-Some.number c.self.inside.nodes.len view (c.self.inside.nodes.ok.0 ∙ sym (length-nodes table kept)) less

pub returns-then-is_empty-clause-number : goal.returns-then-is_empty-clause-number
returns-then-is_empty-clause-number c =
    let now = c.args.self.now in
    let trees = now.trees in
    let table = c.self.inside.table in
    let kept = c.self.inside.nodes.items in
    let nodes = nodes_of table kept in
    let view : trees_from [] nodes ≡ trees = ap (λ (w : World). w.trees) c.self.view_is in
    let less = based_number (length trees) c.args.base c.in-Some.number c.in-Some.is c.requires in
    let at = numbered_in nodes trees c.in-Some.number (node_of table c.index.result.now) c.self.invariant.2 view less
    (node-at table kept c.in-Some.number c.index.result.now c.index.ensures) in
    ap (base_files trees) c.in-Some.is ∙ sym at.0 ∙ ap (λ v. files_in trees (stood table v)) (c.is_empty.ensures.0 c.if-is_empty.true)

pub returns-then-is_empty-clause-joined : goal.returns-then-is_empty-clause-joined
returns-then-is_empty-clause-joined c =
    filled_joined c.self.inside.table c.self.inside.nodes.items c.args.self.now c.args.base c.in-Some.number c.self.view_is c.self.invariant.2 c.in-Some.is
    c.requires

pub returns-clause-number : goal.returns-clause-number
returns-clause-number c =
    let now = c.args.self.now in
    let trees = now.trees in
    let table = c.self.inside.table in
    let kept = c.self.inside.nodes.items in
    let nodes = nodes_of table kept in
    let view : trees_from [] nodes ≡ trees = ap (λ (w : World). w.trees) c.self.view_is in
    let less = based_number (length trees) c.args.base c.in-Some.number c.in-Some.is c.requires in
    let at = numbered_in nodes trees c.in-Some.number (node_of table c.index.result.now) c.self.invariant.2 view less
    (node-at table kept c.in-Some.number c.index.result.now c.index.ensures) in
    let files = ap (base_files trees) c.in-Some.is in (
      less,
      sym files,
      ap has_some (files ∙ sym at.0) ∙ some_files trees (stood table c.index.result.now.numbers) at.1
          (λ e. iff_false c.is_empty.ensures c.if-is_empty.false (stood_none table c.index.result.now.numbers e)),
    )

pub returns-clause-joined : goal.returns-clause-joined
returns-clause-joined c =
    filled_joined c.self.inside.table c.self.inside.nodes.items c.args.self.now c.args.base c.in-Some.number c.self.view_is c.self.invariant.2 c.in-Some.is
    c.requires
