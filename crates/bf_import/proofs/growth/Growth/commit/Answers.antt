use Rattle.std.proofs.Common.{◌≡◌, ℕ, IfOk, subst}
use Rattle.bf_forest.specs.Trees.{files_at}
use Rattle.bf_grammar.specs.declared.fault.Limits.{Limits}
use Rattle.bf_history.specs.Bodies.{subject_of}
use Rattle.bf_history.specs.Imports.{Means}
use Rattle.bf_import.specs.Growing.{commit_from, edited_files, joined, with_named, within_commits}
use Rattle.bf_history.proofs.Meant.{means_at_exit, means_same}
use Rattle.bf_import.proofs.Standing.{trees_refused, stands, stands_at}
use Rattle.bf_import.proofs.growth.Growth.commit.Goals as goal

pub returns-in_err-tree-clause-history : goal.returns-in_err-tree-clause-history
returns-in_err-tree-clause-history c =
    let history = c.args.self.now.history in
    let limits = c.args.self.now.limits in
    let after = c.edited_tree.new.self.history in
    means_at_exit (λ (place : ℕ). after) (joined limits history (commit_from history c.args.first c.args.parents.now c.args.edits.now c.args.header))
    c.in_err-tree.field-0.0 c.from_residual.result c.from_residual.ensures.1
    (trees_refused limits history c.args.parents.now (edited_files history c.args.first c.args.edits.now) c.args.header (λ (number : ℕ). after)
    (λ (place : ℕ). after) c.in_err-tree.field-0.0 c.in_err-tree.ensures.pool)

pub returns-clause-history : goal.returns-clause-history
returns-clause-history c =
    let history = c.args.self.now.history in
    let after = λ (_ : ℕ). c.add_named_commit.new.self.history in
    means_same after c.add_named_commit.result _ _
    (stands c.args.self.now.limits history c.args.parents.now (edited_files history c.args.first c.args.edits.now) c.args.header
    c.edited_tree.new.self.history c.in_ok-tree.ensures.pool c.in_ok-tree.tree c.in_ok-tree.ensures.files
    c.tree_name.result c.tree_name.ensures c.names.result.now c.names.ensures.names c.in_ok-name.name c.in_ok-name.ensures.oid)
    (subst (λ (limits : Limits). Means after c.add_named_commit.result (within_commits limits.commits (with_named c.edited_tree.new.self.history (record {
      parents = c.args.parents.now;
      files = files_at c.edited_tree.new.self.history.directories c.in_ok-tree.tree;
      subject = subject_of
          c.args.header.message;
      name = c.in_ok-name.name;
    }))))
    c.in_ok-tree.ensures.limits c.add_named_commit.ensures.history)

pub returns-clause-place : goal.returns-clause-place
returns-clause-place c =
    let history = c.args.self.now.history in
    subst (λ (at : ℕ). IfOk c.add_named_commit.result (λ place. place ≡ at))
    (stands_at c.args.self.now.limits history c.args.parents.now (edited_files history c.args.first c.args.edits.now) c.args.header
    c.edited_tree.new.self.history c.in_ok-tree.ensures.pool c.in_ok-tree.tree c.in_ok-tree.ensures.files
    c.tree_name.result c.tree_name.ensures c.names.result.now c.names.ensures.names c.in_ok-name.name c.in_ok-name.ensures.oid)
    c.add_named_commit.ensures.place
