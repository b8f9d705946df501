use Rattle.std.proofs.Common.{length, sym, ap, ◌∙◌}
use Rattle.bf_forest.specs.Cuts.{path_in, with_path}
use Rattle.bf_forest.specs.Nodes.{stood}
use Rattle.bf_forest.specs.Overlays.{overlaid}
use Rattle.bf_forest.specs.Rests.{slots_in}
use Rattle.bf_forest.specs.Slots.{slots_of, slots_after}
use Rattle.bf_forest.proofs.Joining.{on_ok}
use Rattle.bf_forest.proofs.Placed.{ascend_slots, drop_whole}
use Rattle.bf_forest.proofs.Resting.{set_rests, remove_rests}
use Rattle.bf_forest.proofs.slots.edit_rest.Goals as goal

pub returns-in-Set-clause-slots : goal.returns-in-Set-clause-slots
returns-in-Set-clause-slots c =
    let table = c.args.table.now in
    let rest = c.args.rest.now in
    let cut = c.args.cut.now in
    let slots = slots_of (stood table rest.base) in
    let is = c.edit.ensures.cut ∙ ap (λ v. with_path v (path_in cut)) c.in-Set.is in
    on_ok c.set.result _ _
    (λ e. ap (λ b. overlaid (slots_of (stood table b)) c.set.new.rest.changes.entries) c.set.ensures.base ∙ ap (overlaid slots) e
    ∙ set_rests slots (path_in cut) c.in-Set.mode c.in-Set.oid rest.changes.entries (ascend_slots (stood table rest.base) c.requires.1)
    ∙ ap (λ v. slots_after v (slots_in table rest)) (sym is))
    c.set.ensures.changes

pub returns-in-Remove-clause-slots : goal.returns-in-Remove-clause-slots
returns-in-Remove-clause-slots c =
    let table = c.args.table.now in
    let rest = c.args.rest.now in
    let cut = c.args.cut.now in
    let slots = slots_of (stood table rest.base) in
    let is = c.edit.ensures.cut ∙ ap (λ v. with_path v (path_in cut)) c.in-Remove.is in
    on_ok c.remove.result _ _
    (λ e. ap (λ b. overlaid (slots_of (stood table b)) c.remove.new.rest.changes.entries) c.remove.ensures.base ∙ ap (overlaid slots) e
    ∙ remove_rests slots (path_in cut) rest.changes.entries (ascend_slots (stood table rest.base) c.requires.1)
    ∙ ap (λ v. slots_after v (slots_in table rest)) (sym is))
    c.remove.ensures.changes

pub returns-in-Clear-clause-base : goal.returns-in-Clear-clause-base
returns-in-Clear-clause-base c = (length c.args.rest.now.base, c.pass_all.ensures ∙ sym (drop_whole c.args.rest.now.base))
