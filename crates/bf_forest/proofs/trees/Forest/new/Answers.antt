use Rattle.std.proofs.Common.{List, [], length, ap, ◌∙◌}
use Rattle.bf_forest.specs.Files.{Files}
use Rattle.bf_forest.specs.Nodes.{files_in, is_node, stood, are_within}
use Rattle.bf_forest.specs.Trees.{Pool, with_tree}
use Rattle.bf_forest.proofs.Pooled.{node-nil}
use Rattle.bf_forest.proofs.trees.Forest.new.Goals as goal

pub returns : goal.returns
returns c =
    let pool : List Files → Pool = λ trees. record { trees = trees; limit = c.args.limit } in
    let table = c.new-trees.result.table in
    ap pool (c.in_ok-add.ensures.ok ∙ ap (λ trees. with_tree trees (files_in trees (stood table c.new.result))) c.new-trees.ensures
    ∙ ap (λ numbers. with_tree [] (files_in [] (stood table numbers))) c.new.ensures)

pub add-requires : goal.add-requires
add-requires c =
    let world = c.new-trees.result in
    record {
      node = ap (λ v. is_node world.trees (stood world.table v)) c.new.ensures ∙ node-nil world.trees;
      within = ap (are_within (length world.table)) c.new.ensures;
    }
