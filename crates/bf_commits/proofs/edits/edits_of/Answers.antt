use Rattle.std.proofs.Common.{◌≡◌, List, Vec, Global, length, sym, subst, ◌∙◌, arith}
use Rattle.bf_forest.specs.declared.edits.Edit.{Edit}
use Rattle.bf_commits.proofs.Changes.{SoFar, none_so_far, one_more, one_refused, all_done, all_kept}
use Rattle.bf_commits.proofs.edits.edits_of.Goals as goal

pub loop-change-init : goal.loop-change-init
loop-change-init g c =
    none_so_far c.args.marks.now (g.C.Contents.kept c.args.contents.now) c.args.changes c.into_iter-change-iterator.result.rest.items
    c.new-edits.result.items (c.into_iter-change-iterator.ensures.into_iter_gives.0 ∙ c.into_vec-change-items.ensures) c.new-edits.ensures.items

pub returns-in_err-edit_of-clause-edits : goal.returns-in_err-edit_of-clause-edits
returns-in_err-edit_of-clause-edits g c =
    one_refused c.args.marks.now (g.C.Contents.kept c.args.contents.now) c.args.changes (g.C.Contents.kept c.loop-change.contents)
    c.loop-change.change-iterator.rest.items c.loop-change.edits.items c.loop-change.invariant c.in-Some.change c.next.new.self.rest.items
    c.in-Some.ensures.steps.0 (λ (e : Edit). e) (λ (edits : Vec Edit Global). edits.items) c.in_err-edit_of.field-0.0 c.from_residual.result
    c.from_residual.ensures.1 c.in_err-edit_of.ensures.edit

pub loop-change-preserved : goal.loop-change-preserved
loop-change-preserved g c =
    let now = g.C.Contents.kept c.edit_of.new.contents in
    subst (λ (done : List Edit). SoFar c.args.marks.now (g.C.Contents.kept c.args.contents.now) c.args.changes now c.next.new.self.rest.items done)
    (sym c.in_ok-push.ensures.items)
    (one_more c.args.marks.now (g.C.Contents.kept c.args.contents.now) c.args.changes (g.C.Contents.kept c.loop-change.contents)
    c.loop-change.change-iterator.rest.items c.loop-change.edits.items c.loop-change.invariant c.in-Some.change c.next.new.self.rest.items
    c.in-Some.ensures.steps.0 c.in_ok-edit_of.field-0 now c.in_ok-edit_of.ensures.edit c.in_ok-edit_of.ensures.kept)

pub returns-clause-edits : goal.returns-clause-edits
returns-clause-edits g c =
    let none : length c.loop-change.change-iterator.rest.items ≡ 0 = omega (arith, c.in-None.ensures.steps.0, c.loop-change.change-iterator.rest.ok.0) in
    all_done c.args.marks.now (g.C.Contents.kept c.args.contents.now) c.args.changes (g.C.Contents.kept c.loop-change.contents)
    c.loop-change.change-iterator.rest.items c.loop-change.edits.items c.loop-change.invariant none

pub returns-clause-kept : goal.returns-clause-kept
returns-clause-kept g c =
    let none : length c.loop-change.change-iterator.rest.items ≡ 0 = omega (arith, c.in-None.ensures.steps.0, c.loop-change.change-iterator.rest.ok.0) in
    all_kept c.args.marks.now (g.C.Contents.kept c.args.contents.now) c.args.changes (g.C.Contents.kept c.loop-change.contents)
    c.loop-change.change-iterator.rest.items c.loop-change.edits.items c.loop-change.invariant none
