use Rattle.std.proofs.Common.{◌<◌, ℕ, Vec, Global, Result, Ok, length, subst, sym, ap, ◌∙◌}
use Rattle.smallvec.specs.SmallVec.{SmallVec}
use Rattle.bf_forest.specs.declared.edits.Edit.{Edit}
use Rattle.bf_history.specs.declared.fault.ImportFault.{ImportFault}
use Rattle.bf_history.specs.Keeping.{edits_meant}
use Rattle.bf_import.specs.Growing.{Importing}
use Rattle.bf_import.proofs.Carried.{first_refused, parents_refused, edits_refused, limits_passed, from_edits, commit_carried, place_set}
use Rattle.bf_import.proofs.importer.Importer.take_named.Goals as goal

pub returns-in_err-first-clause-loading : goal.returns-in_err-first-clause-loading
returns-in_err-first-clause-loading g c =
    first_refused c.args.self.now.limits c.args.self.now.loading c.args.commit (edits_meant (g.C.Contents.kept c.args.contents.now) c.args.self.now.loading.marks c.args.commit.changes) (λ _. c.args.self.now.loading) c.from_residual.result
    c.in_err-first.field-0.0 c.from_residual.ensures.1 c.in_err-first.ensures.place

pub returns-in_err-parents-clause-loading : goal.returns-in_err-parents-clause-loading
returns-in_err-parents-clause-loading g c =
    parents_refused c.args.self.now.limits c.args.self.now.loading c.args.commit (edits_meant (g.C.Contents.kept c.args.contents.now) c.args.self.now.loading.marks c.args.commit.changes) (λ _. c.args.self.now.loading) c.from_residual-in_err-parents.result
    c.in_ok-first.first c.in_ok-first.ensures.place
    (λ (places : SmallVec ℕ). places.items) c.in_err-parents.field-0.0 c.from_residual-in_err-parents.ensures.1
    (rw c.as_slice.ensures at c.in_err-parents.ensures.parents)

pub returns-in_err-edits-clause-loading : goal.returns-in_err-edits-clause-loading
returns-in_err-edits-clause-loading g c =
    edits_refused c.args.self.now.limits c.args.self.now.loading c.args.commit (edits_meant (g.C.Contents.kept c.args.contents.now) c.args.self.now.loading.marks c.args.commit.changes) (λ _. c.args.self.now.loading) c.from_residual-in_err-edits.result
    c.in_ok-first.first c.in_ok-first.ensures.place c.in_ok-parents.parents.items (rw c.as_slice.ensures at c.in_ok-parents.ensures.parents)
    (λ (edits : Vec Edit Global). edits.items) c.in_err-edits.field-0.0 c.from_residual-in_err-edits.ensures.1
    c.in_err-edits.ensures.edits

pub returns-in_err-place-clause-loading : goal.returns-in_err-place-clause-loading
returns-in_err-place-clause-loading g c =
    limits_passed c.args.self.now.limits c.args.self.now.loading c.args.commit (edits_meant (g.C.Contents.kept c.args.contents.now) c.args.self.now.loading.marks c.args.commit.changes) (λ _. c.add_commit.new.self.loading) c.from_residual-in_err-place.result
    c.in_ok-first.first c.in_ok-first.ensures.place c.in_ok-parents.parents.items (rw c.as_slice.ensures at c.in_ok-parents.ensures.parents)
    c.in_ok-edits.edits.items c.in_ok-edits.ensures.edits
    (λ (_ : ℕ). c.add_commit.new.self.loading.history) c.in_err-place.field-0.0 c.from_residual-in_err-place.ensures.1
    (rw (c.as_slice-2.ensures, c.as_slice-3.ensures.value) at c.in_err-place.ensures.history)

pub set_mark-requires : goal.set_mark-requires
set_mark-requires g c = subst (λ (i : Importing). c.in_ok-place.place < length i.loading.history.parents) (sym c.in_ok-set_ref.ensures)
    c.in_ok-place.ensures.there

pub returns-clause-loading : goal.returns-clause-loading
returns-clause-loading g c =
    let done : Result (Unit {0}) ImportFault = Ok tt in
    from_edits c.args.self.now.limits c.args.self.now.loading c.args.commit (edits_meant (g.C.Contents.kept c.args.contents.now) c.args.self.now.loading.marks c.args.commit.changes) (λ _. c.set_mark.new.self.loading) done
    c.in_ok-first.first c.in_ok-first.ensures.place c.in_ok-parents.parents.items (rw c.as_slice.ensures at c.in_ok-parents.ensures.parents)
    c.in_ok-edits.edits.items c.in_ok-edits.ensures.edits
    (commit_carried c.args.self.now.limits c.args.self.now.loading c.args.commit c.in_ok-first.first c.in_ok-parents.parents.items c.in_ok-edits.edits.items
    c.add_commit.new.self.loading.history c.in_ok-place.place c.set_mark.new.self.loading
    (rw (c.as_slice-2.ensures, c.as_slice-3.ensures.value) at c.in_ok-place.ensures.history)
    (rw (c.as_slice-2.ensures, c.as_slice-3.ensures.value) at c.in_ok-place.ensures.place)
    (place_set c.args.self.now c.add_commit.new.self c.set_ref.new.self c.set_mark.new.self c.args.commit c.in_ok-place.place c.in_ok-place.ensures.marks
    c.in_ok-set_ref.ensures c.in_ok-set_mark.ensures))

pub returns-clause-limits : goal.returns-clause-limits
returns-clause-limits g c =
    ap (λ (i : Importing). i.limits) c.in_ok-set_mark.ensures ∙ ap (λ (i : Importing). i.limits) c.in_ok-set_ref.ensures ∙ c.in_ok-place.ensures.limits
