use Rattle.std.proofs.Common.{◌≡◌, true, false, subst, sym, ◌∙◌}
use Rattle.bf_history.specs.Keeping.{edits_meant}
use Rattle.bf_history.specs.Meanings.{lacks_name}
use Rattle.bf_import.specs.Growing.{Importing}
use Rattle.bf_import.proofs.Carried.{named_carried, nameless_refused}
use Rattle.bf_import.proofs.importer.Importer.take_commit.Goals as goal

pub returns-then-lacks_name-clause-loading : goal.returns-then-lacks_name-clause-loading
returns-then-lacks_name-clause-loading g c =
    nameless_refused {X = Unit {0}} (λ _. c.args.self.now.loading) c.args.self.now.limits c.args.self.now.loading c.args.commit
    (edits_meant (g.C.Contents.kept c.args.contents.now) c.args.self.now.loading.marks c.args.commit.changes)
    (subst (λ (i : Importing). lacks_name i.limits i.loading.history c.args.commit.header ≡ true) c.self.view_is
    (sym c.lacks_name.ensures ∙ c.if-lacks_name.true))

pub returns-clause-loading : goal.returns-clause-loading
returns-clause-loading g c =
    named_carried (λ _. c.take_named.new.self.loading) c.args.self.now.limits c.args.self.now.loading c.args.commit
    (edits_meant (g.C.Contents.kept c.args.contents.now) c.args.self.now.loading.marks c.args.commit.changes) c.take_named.result
    (subst (λ (i : Importing). lacks_name i.limits i.loading.history c.args.commit.header ≡ false) c.self.view_is
    (sym c.lacks_name.ensures ∙ c.if-lacks_name.false)) c.take_named.ensures.loading
