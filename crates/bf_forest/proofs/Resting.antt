-- What an edit makes of the changes is what it makes of the entries.
use Rattle.std.proofs.Common.{◌≡◌, ℕ, true, List, [], ◌∷◌, ◌++◌, Option, Some, None, refl, sym, ap, ◌∙◌}
use Rattle.bf_oid.specs.declared.object.Mode.{Mode}
use Rattle.bf_oid.specs.declared.object.Oid.{Oid}
use Rattle.bf_forest.specs.declared.edits.Edit.{Edit}
use Rattle.bf_forest.specs.declared.edits.Edit.TheVariants.{Set, Remove}
use Rattle.bf_forest.specs.declared.nodes.EntryKind.{EntryKind}
use Rattle.bf_forest.specs.declared.nodes.EntryKind.TheVariants as kind
use Rattle.bf_forest.specs.declared.slots.EntrySlot.{EntrySlot}
use Rattle.bf_forest.specs.declared.slots.EntrySlot.TheVariants.{File, Directory}
use Rattle.bf_forest.specs.Overlays.{overlaid, do_ascend}
use Rattle.bf_forest.specs.Rests.{less_change, set_rest, remove_rest}
use Rattle.bf_forest.specs.Slots.{directory_key, put, without, found, directory_of, directory_at, with_edit, less_inside, slot_of, set_slots, remove_slots}
use Rattle.bf_forest.proofs.Overlaid.{change_or, overlaid_put, found_overlaid}

abbrev Slots : Type 0
Slots = List (List ℕ × EntrySlot)

abbrev Changed : Type 0
Changed = List (List ℕ × Option EntrySlot)

pub set_rests : (slots : Slots) (path : List (List ℕ)) (mode : Mode) (oid : Oid) (changes : Changed) → do_ascend slots ≡ true
    → overlaid slots (set_rest slots path mode oid changes) ≡ set_slots path mode oid (overlaid slots changes)
set_rests slots [] mode oid changes h = refl
set_rests slots (name ∷ []) mode oid changes h =
    overlaid_put slots (put changes (directory_key name) None) name (Some (File mode oid)) h
    ∙ ap (λ v. put v name (File mode oid)) (overlaid_put slots changes (directory_key name) None h)
set_rests slots (name ∷ next ∷ rest) mode oid changes h =
    let key = directory_key name in
    let edit = Set (next ∷ rest) mode oid in
    let one = put changes name None in
    let first = overlaid_put slots changes name None h in
    let slot = with_edit (directory_at key (overlaid slots one)) edit in
    overlaid_put slots (put one key None) key (Some slot) h
    ∙ ap (λ v. put v key slot) (overlaid_put slots one key None h)
    ∙ ap (λ v. put (without key v) key (with_edit (directory_at key v) edit)) first

less_rests : (slots : Slots) (directory : Option (Option ℕ × List Edit)) (key : List ℕ) (edit : Edit) (changes : Changed) → do_ascend slots ≡ true
    → overlaid slots (less_change directory key edit changes) ≡ less_inside directory key edit (overlaid slots changes)
less_rests slots None key edit changes h = refl
less_rests slots (Some directory) key edit changes h = overlaid_put slots changes key (Some (Directory directory.0 (directory.1 ++ edit ∷ []))) h

pub remove_rests : (slots : Slots) (path : List (List ℕ)) (changes : Changed) → do_ascend slots ≡ true
    → overlaid slots (remove_rest slots path changes) ≡ remove_slots path (overlaid slots changes)
remove_rests slots [] changes h = refl
remove_rests slots (name ∷ []) changes h =
    overlaid_put slots (put changes name None) (directory_key name) None h ∙ ap (without (directory_key name)) (overlaid_put slots changes name None h)
remove_rests slots (name ∷ next ∷ rest) changes h =
    let key = directory_key name in
    let directory = directory_at key (overlaid slots changes) in
    less_rests slots directory key (Remove (next ∷ rest)) (put changes key None) h
    ∙ ap (less_inside directory key (Remove (next ∷ rest))) (overlaid_put slots changes key None h)

-- the directory at a key: that of a change, or else the old one
pub directory_over : (slots : Slots) (changes : Changed) (key : List ℕ) (change : Option (Option EntrySlot)) → do_ascend slots ≡ true → change ≡ found key changes
    → directory_of (change_or change (found key slots)) ≡ directory_at key (overlaid slots changes)
directory_over slots changes key change h e =
    ap directory_of (ap (λ v. change_or v (found key slots)) e ∙ sym (found_overlaid key slots changes h))

pub kind_directory : (k : EntryKind) (number : ℕ) → k ≡ kind.Directory number → directory_of (Some (slot_of k)) ≡ Some (Some number, [])
kind_directory k number e = ap (λ v. directory_of (Some (slot_of v))) e

pub kind_file : (k : EntryKind) (mode : Mode) (oid : Oid) → k ≡ kind.File mode oid → directory_of (Some (slot_of k)) ≡ None
kind_file k mode oid e = ap (λ v. directory_of (Some (slot_of v))) e
