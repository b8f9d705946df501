use Rattle.std.proofs.Common.{◌≡◌, ◌+◌, ◌*◌, ◌≤◌, List, true, length, sym, ap, ◌∙◌, subst, arith}
use Rattle.std.specs.List.{list_all, fold}
use Rattle.bf_forest.specs.declared.nodes.Entry.{Entry}
use Rattle.bf_forest.specs.Files.{edited}
use Rattle.bf_forest.specs.Listing.{is_listing, shown}
use Rattle.bf_forest.specs.Nodes.{World, nodes_of, files_in, is_node, stood}
use Rattle.bf_forest.specs.Opened.{IsOpened, heft, weight}
use Rattle.bf_forest.specs.Overlays.{overlaid}
use Rattle.bf_forest.specs.Rests.{IsOld, slots_in}
use Rattle.bf_forest.specs.Slots.{base_files, contents, slots_after, slots_of, is_slot, longest}
use Rattle.bf_forest.proofs.Copied.{contents-of, slots_earlier}
use Rattle.bf_forest.proofs.Heft.{heft_edited, heft_entries}
use Rattle.bf_forest.proofs.Pooled.{node-good, node-listing, sound_in}
use Rattle.bf_forest.proofs.Slotted.{slots_edited, slots_wider, longest_some}
use Rattle.bf_forest.proofs.Walking.{base_shorter}
use Rattle.bf_forest.proofs.pool.Trees.open.Goals as goal

pub edit_all-requires : goal.edit_all-requires
edit_all-requires c =
    let now = c.args.self.now in
    let table = c.self.inside.table in
    let same : table ≡ now.table = ap (λ (w : World). w.table) c.self.view_is in
    let tail = c.in_ok-tail.tail in
    let P : List Entry → Type 0 = λ v. IsOld v tail in
    subst P (sym same) c.in_ok-tail.ensures.base.0

pub returns-clause-opened : goal.returns-clause-opened
returns-clause-opened c =
    let now = c.args.self.now in
    let trees = now.trees in
    let edits = c.args.edits.now in
    let table = c.self.inside.table in
    let same : table ≡ now.table = ap (λ (w : World). w.table) c.self.view_is in
    let tail = c.in_ok-tail.tail in
    let entries = stood table tail in
    let nodes = nodes_of table c.self.inside.nodes.items in
    let sound = sound_in nodes trees c.self.invariant.2 (ap (λ (w : World). w.trees) c.self.view_is) in
    let N : List Entry → Type 0 = λ v. is_node trees (stood v tail) ≡ true in
    let node = subst N (sym same) c.in_ok-tail.ensures.node in
    let F : List Entry → Type 0 = λ v. files_in trees (stood v tail) ≡ base_files trees c.args.base in
    let files = subst F (sym same) c.in_ok-tail.ensures.files in
    let slots = slots_of entries in
    let first : overlaid slots c.new.result.entries ≡ slots = ap (overlaid slots) c.new.ensures.empty in
    let all = slots_wider (length trees) (longest edits) slots (longest_some edits c.requires.some)
    (slots_earlier (length trees) entries (node-good trees entries node)) in
    let known = slots_edited trees (longest edits) edits slots sound (ap is_listing (contents-of trees entries) ∙ node-listing trees entries node, all)
    c.in_ok-edit_all.ensures.paths (omega arith) in
    let after : slots_in table c.edit_all.new.rest ≡ fold (λ slots edit. slots_after edit slots) slots edits =
    c.in_ok-edit_all.ensures.slots ∙ ap (λ v. fold (λ slots edit. slots_after edit slots) v edits) first in
    let P : List Entry → Type 0 = λ v. IsOpened trees (edited (base_files trees c.args.base) edits) (slots_in v c.edit_all.new.rest) in
    subst P same (
      sound,
      ap (λ v. is_listing (contents trees v)) after ∙ known.0.0,
      ap (λ v. shown (contents trees v)) after ∙ known.1 ∙ ap (λ v. edited v edits) (ap shown (contents-of trees entries) ∙ files),
      (longest edits, ap (list_all (λ slot. is_slot (length trees) (longest edits) slot.1)) after ∙ known.0.1),
    )

pub returns-clause-base : goal.returns-clause-base
returns-clause-base c =
    let now = c.args.self.now in
    let trees = now.trees in
    let tail = c.in_ok-tail.tail in
    base_shorter trees now.table tail c.edit_all.new.rest.base c.in_ok-tail.ensures.base c.in_ok-edit_all.ensures.base

pub returns-clause-heft : goal.returns-clause-heft
returns-clause-heft c =
    let now = c.args.self.now in
    let edits = c.args.edits.now in
    let table = c.self.inside.table in
    let same : table ≡ now.table = ap (λ (w : World). w.table) c.self.view_is in
    let tail = c.in_ok-tail.tail in
    let entries = stood table tail in
    let slots = slots_of entries in
    let first : overlaid slots c.new.result.entries ≡ slots = ap (overlaid slots) c.new.ensures.empty in
    let after : slots_in table c.edit_all.new.rest ≡ fold (λ slots edit. slots_after edit slots) slots edits =
    c.in_ok-edit_all.ensures.slots ∙ ap (λ v. fold (λ slots edit. slots_after edit slots) v edits) first in
    let P : List Entry → Type 0 = λ v. heft (slots_in v c.edit_all.new.rest) + 2 * length edits ≤ weight edits in
    let most = heft_edited edits slots in
    let here = ap heft after in
    subst P same (omega (arith, most, here, heft_entries entries))
