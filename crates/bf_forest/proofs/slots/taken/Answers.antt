use Rattle.std.proofs.Common.{◌≡◌, Some, None, List, sym, ap, ◌∙◌}
use Rattle.bf_forest.specs.declared.edits.Edit.{Edit}
use Rattle.bf_forest.specs.Nodes.{stood}
use Rattle.bf_forest.specs.Rests.{old_directory}
use Rattle.bf_forest.specs.Slots.{slots_of, found, directory_at}
use Rattle.bf_forest.proofs.Placed.{ascend_slots}
use Rattle.bf_forest.proofs.Resting.{directory_over}
use Rattle.bf_forest.proofs.slots.taken.Goals as goal

pub returns-in-Some-clause-directory : goal.returns-in-Some-clause-directory
returns-in-Some-clause-directory c =
    let slots = slots_of (stood c.args.table.now c.args.base.now) in
    let changes = c.args.changes.now.entries in
    let key = c.args.key.now in
    let old : c.in_ok-slot.field-0 ≡ found key changes = c.in_ok-slot.ensures.old ∙ ap (λ k. found k changes) c.in_ok-try_clone.ensures in
    let ascends = ascend_slots (stood c.args.table.now c.args.base.now) c.requires.1 in
    c.directory_in.ensures ∙ directory_over slots changes key (Some c.in-Some.slot) ascends (sym c.in-Some.is ∙ old)

pub returns-in-Some-old_directory-clause-directory : goal.returns-in-Some-old_directory-clause-directory
returns-in-Some-old_directory-clause-directory c =
    let slots = slots_of (stood c.args.table.now c.args.base.now) in
    let changes = c.args.changes.now.entries in
    let key = c.args.key.now in
    let old : c.in_ok-slot.field-0 ≡ found key changes = c.in_ok-slot.ensures.old ∙ ap (λ k. found k changes) c.in_ok-try_clone.ensures in
    let ascends = ascend_slots (stood c.args.table.now c.args.base.now) c.requires.1 in
    let number = c.in-Some-old_directory.number in
    ap {A = List Edit} (λ v. Some (Some number, v)) c.new.ensures
    ∙ sym (ap old_directory c.in-Some-old_directory.is) ∙ c.old_directory.ensures ∙ ap (λ k. directory_at k slots) c.as_slice.ensures
    ∙ directory_over slots changes key None ascends (sym c.in-None.is ∙ old)

pub returns-in-None-old_directory-clause-directory : goal.returns-in-None-old_directory-clause-directory
returns-in-None-old_directory-clause-directory c =
    let slots = slots_of (stood c.args.table.now c.args.base.now) in
    let changes = c.args.changes.now.entries in
    let key = c.args.key.now in
    let old : c.in_ok-slot.field-0 ≡ found key changes = c.in_ok-slot.ensures.old ∙ ap (λ k. found k changes) c.in_ok-try_clone.ensures in
    let ascends = ascend_slots (stood c.args.table.now c.args.base.now) c.requires.1 in
    sym (ap old_directory c.in-None-old_directory.is) ∙ c.old_directory.ensures ∙ ap (λ k. directory_at k slots) c.as_slice.ensures
    ∙ directory_over slots changes key None ascends (sym c.in-None.is ∙ old)
