use Rattle.std.proofs.Common.{◌≡◌, List, [], length, take, true, sym, ap, ◌∙◌, subst}
use Rattle.bf_forest.specs.declared.pool.KeptTree.{KeptTree}
use Rattle.bf_forest.specs.Files.{Files}
use Rattle.bf_forest.specs.Index.{IsIndexed}
use Rattle.bf_forest.specs.Nodes.{World, Node, nodes_of, trees_from, AreNodes, are_kept_within}
use Rattle.bf_forest.specs.Trees.{entries_of}
use Rattle.bf_forest.proofs.Indexed.{IsIndexed-take}
use Rattle.bf_forest.proofs.Pooled.{trees-take, nodes-take}
use Rattle.bf_forest.proofs.Tabled.{nodes-front, kept_within_take}
use Rattle.bf_forest.proofs.pool.Trees.truncate.Goals as goal

pub invariant_of-self : goal.invariant_of-self
invariant_of-self c =
    let table = c.self.inside.table in
    let kept = c.self.inside.nodes.items in
    let nodes = nodes_of table kept in
    let count = c.args.count in
    let front : nodes_of table c.truncate.new.self.items ≡ take count nodes = ap (nodes_of table) c.truncate.ensures.items ∙ nodes-front table kept count in
    let left : trees_from [] (nodes_of table c.truncate.new.self.items) ≡ take count (trees_from [] nodes) =
    ap (trees_from []) front ∙ sym (trees-take nodes count) in
    let P : List Files → Type 0 = λ trees. IsIndexed c.self.inside.index trees in
    let Q : List Node → Type 0 = λ list. AreNodes [] list in
    let R : List KeptTree → Type 0 = λ list. are_kept_within (length table) list ≡ true in (
      c.requires ∙ ap (λ (w : World). entries_of (take count w.trees)) (sym c.self.view_is) ∙ ap entries_of (sym left),
      subst P (sym left) (IsIndexed-take c.self.inside.index (trees_from [] nodes) count c.self.invariant.1),
      subst Q (sym front) (nodes-take [] nodes count c.self.invariant.2),
      subst R (sym c.truncate.ensures.items) (kept_within_take (length table) count kept c.self.invariant.3),
    )

pub returns : goal.returns
returns c =
    let table = c.self.inside.table in
    let kept = c.self.inside.nodes.items in
    ap (trees_from []) (ap (nodes_of table) c.truncate.ensures.items ∙ nodes-front table kept c.args.count) ∙ sym
    (trees-take (nodes_of table kept) c.args.count)
    ∙ ap (λ (w : World). take c.args.count w.trees) c.self.view_is
