use Rattle.std.proofs.Common.{sym, ap, ◌∙◌}
use Rattle.bf_forest.specs.Trees.{with_directories, files_at}
use Rattle.bf_forest.proofs.Settling.{edited-nil, no_edits}
use Rattle.bf_forest.proofs.pool.Trees.join.Goals as goal

pub returns-then-is_empty-clause-ok : goal.returns-then-is_empty-clause-ok
returns-then-is_empty-clause-ok c =
    let trees = c.args.self.now.trees in
    let edits = c.args.edits.now in
    let same = edited-nil (files_at trees c.args.tree) edits (no_edits edits c.is_empty.result c.is_empty.ensures c.if-is_empty.true) in
    sym c.unchanged.ensures.joined ∙ sym (ap (with_directories trees) same)

pub returns-then-is_empty-clause-files : goal.returns-then-is_empty-clause-files
returns-then-is_empty-clause-files c =
    let trees = c.args.self.now.trees in
    let edits = c.args.edits.now in
    let same = edited-nil (files_at trees c.args.tree) edits (no_edits edits c.is_empty.result c.is_empty.ensures c.if-is_empty.true) in
    ap (files_at trees) c.unchanged.ensures.number ∙ sym same
