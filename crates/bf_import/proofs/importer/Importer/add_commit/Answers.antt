use Rattle.std.proofs.Common.{◌≡◌, ℕ, length, IfOk, subst}
use Rattle.bf_history.specs.Imports.{Means}
use Rattle.bf_history.specs.Meanings.{place_of_commit}
use Rattle.bf_import.specs.Growing.{Importing, commit_from, joined}
use Rattle.bf_import.proofs.Keeping.{marks_longer}
use Rattle.bf_import.proofs.importer.Importer.add_commit.Goals as goal

pub invariant_of-self : goal.invariant_of-self
invariant_of-self c =
    marks_longer (length c.self.inside.growth.history.parents) (length c.commit.new.self.history.parents) c.self.inside.marks c.commit.ensures.kept
    c.self.invariant

pub returns-clause-history : goal.returns-clause-history
returns-clause-history c =
    subst (λ (i : Importing). Means (λ _. c.commit.new.self.history) c.commit.result
    (joined i.limits i.loading.history (commit_from i.loading.history c.args.first c.args.parents.now c.args.edits.now c.args.header))) c.self.view_is
    c.commit.ensures.history

pub returns-clause-place : goal.returns-clause-place
returns-clause-place c =
    subst (λ (i : Importing). IfOk c.commit.result
    (λ (place : ℕ). place ≡ place_of_commit i.loading.history
    (commit_from i.loading.history c.args.first c.args.parents.now c.args.edits.now c.args.header))) c.self.view_is
    c.commit.ensures.place
