use Rattle.std.proofs.Common.{◌≡◌, [], length, ap, ◌∙◌}
use Rattle.std.specs.List.{list_all}
use Rattle.std.proofs.lemmas.List.{take_all}
use Rattle.bf_oid.specs.Object.{name_of}
use Rattle.bf_oid.specs.declared.object.Kind.TheVariants.{Tree}
use Rattle.bf_forest.specs.Nodes.{World, is_good, body_of, nodes_of, stood, trees_from, are_within}
use Rattle.bf_forest.proofs.Pooled.{node-good, name_by_entries, closed_in}
use Rattle.bf_forest.proofs.Tabled.{within_get, stood_get}
use Rattle.bf_forest.proofs.pool.Trees.name_of.Goals as goal

pub add_body-requires : goal.add_body-requires
add_body-requires c =
    let now = c.args.self.now in
    let numbers = c.args.numbers.now in
    let items = c.as_slice-number-items.result.now in
    let at = c.loop-number.number-index in
    record {
      within = within_get (length now.table) items at (ap (are_within (length now.table)) c.as_slice-number-items.ensures ∙ c.requires.within)
          c.loop-number-test.true;
      good = stood_get now.table (is_good (length now.trees)) items at
          (ap (λ v. list_all (is_good (length now.trees)) (stood now.table v)) c.as_slice-number-items.ensures ∙ node-good now.trees (stood now.table numbers)
          c.requires.node) c.loop-number-test.true;
    }

pub returns : goal.returns
returns c =
    let now = c.args.self.now in
    let entries = stood now.table c.args.numbers.now in
    let items = c.as_slice-number-items.result.now in
    let nodes = nodes_of c.self.inside.table c.self.inside.nodes.items in
    let view : trees_from [] nodes ≡ now.trees = ap (λ (w : World). w.trees) c.self.view_is in
    c.object_name.ensures
    ∙ ap (name_of Tree) (c.as_slice.ensures ∙ c.loop-number.invariant
    ∙ ap (λ v. body_of now.trees (stood now.table v)) (take_all c.loop-number.number-index items c.loop-number-test.false ∙ c.as_slice-number-items.ensures))
    ∙ name_by_entries now.trees entries (closed_in nodes now.trees c.self.invariant.2 view) c.requires.node
