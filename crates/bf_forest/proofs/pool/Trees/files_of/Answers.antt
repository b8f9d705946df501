use Rattle.std.proofs.Common.{sym, ap, ◌∙◌}
use Rattle.bf_forest.specs.Files.{is_tree}
use Rattle.bf_forest.specs.Nodes.{listed, stood}
use Rattle.bf_forest.proofs.Listed.{is_tree-shown}
use Rattle.bf_forest.proofs.Pooled.{node-listing}
use Rattle.bf_forest.proofs.pool.Trees.files_of.Goals as goal

pub returns-clause-tree : goal.returns-clause-tree
returns-clause-tree c =
    let trees = c.args.self.now.trees in
    let entries = stood c.args.self.now.table c.node.result.now in
    ap is_tree (sym c.node.ensures.files) ∙ is_tree-shown (listed trees entries) (node-listing trees entries c.node.ensures.node)
