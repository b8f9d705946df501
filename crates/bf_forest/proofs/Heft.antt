-- What is still to be done in a directory grows by no more than its edits.
use Rattle.std.proofs.Common.{◌≡◌, ℕ, ◌+◌, ◌*◌, ◌≤◌, true, false, cond, List, [], ◌∷◌, ◌++◌, length, Option, Some, None, refl, arith}
use Rattle.std.specs.Ordering.{nat_cmp, is_eq, match_ordering}
use Rattle.std.specs.declared.cmp.Ordering.TheVariants.{Less, Equal, Greater}
use Rattle.std.specs.Cmp.Lexicographic.{slice_cmp}
use Rattle.std.specs.List.{fold}
use Rattle.bf_forest.specs.declared.edits.Edit.{Edit}
use Rattle.bf_forest.specs.declared.edits.Edit.TheVariants.{Set, Remove, Clear}
use Rattle.bf_forest.specs.declared.nodes.Entry.{Entry}
use Rattle.bf_forest.specs.declared.nodes.EntryKind.{EntryKind}
use Rattle.bf_forest.specs.declared.nodes.EntryKind.TheVariants as kind
use Rattle.bf_forest.specs.declared.slots.EntrySlot.{EntrySlot}
use Rattle.bf_forest.specs.declared.slots.EntrySlot.TheVariants.{File, Directory}
use Rattle.bf_forest.specs.Opened.{weight, slot_heft, heft}
use Rattle.bf_forest.specs.Slots.{directory_key, put, without, found, directory_of, directory_at, with_edit, less_inside, slots_after, slot_of, slots_of}
use Rattle.bf_forest.specs.Slots.{edit_length}

heft_put : (slots : List (List ℕ × EntrySlot)) (key : List ℕ) (slot : EntrySlot) → heft (put slots key slot) ≤ heft slots + slot_heft slot
heft_put [] key slot = omega arith
heft_put (e ∷ es) key slot =
    let more = heft_put es key slot in
    let all = heft (e ∷ es) + slot_heft slot in
    elim (slice_cmp nat_cmp key e.0) as (λ o. heft (match_ordering o ((key, slot) ∷ e ∷ es) ((e.0, slot) ∷ es) (e ∷ put es key slot)) ≤ all) [
      | Less ↦ omega arith
      | Equal ↦ omega arith
      | Greater ↦ omega (arith, more)
    ]

heft_without : (key : List ℕ) (slots : List (List ℕ × EntrySlot)) → heft (without key slots) ≤ heft slots
heft_without key [] = omega arith
heft_without key (e ∷ es) =
    let more = heft_without key es in
    elim (is_eq (slice_cmp nat_cmp key e.0)) as (λ b. heft (cond b es (e ∷ without key es)) ≤ heft (e ∷ es)) [
      | true ↦ omega arith
      | false ↦ omega (arith, more)
    ]

-- the weight of what waits in a directory
waiting : Option (Option ℕ × List Edit) → ℕ
waiting None = 0
waiting (Some directory) = weight directory.1

waiting_slot : (slot : EntrySlot) → waiting (directory_of (Some slot)) ≤ slot_heft slot
unfolding waiting
waiting_slot (File mode oid) = omega arith
waiting_slot (Directory base pending) = omega arith

heft_found : (key : List ℕ) (slots : List (List ℕ × EntrySlot)) → waiting (directory_at key slots) + heft (without key slots) ≤ heft slots
unfolding waiting
heft_found key [] = omega arith
heft_found key (e ∷ es) =
    let more = heft_found key es in
    let here = waiting_slot e.1 in
    elim (is_eq (slice_cmp nat_cmp key e.0)) as (λ b. waiting (directory_of (cond b (Some e.1) (found key es))) + heft (cond b es (e ∷ without key es)) ≤ heft
    (e ∷ es)) [
      | true ↦ omega (arith, here)
      | false ↦ omega (arith, more)
    ]

weight_more : (edits : List Edit) (edit : Edit) → weight (edits ++ edit ∷ []) ≡ weight edits + 2 * edit_length edit
weight_more [] edit = omega arith
weight_more (first ∷ edits) edit = let more = weight_more edits edit in omega (arith, more)

heft_edit : (directory : Option (Option ℕ × List Edit)) (edit : Edit) → slot_heft (with_edit directory edit) ≤ waiting directory + 2 * edit_length edit
unfolding waiting
heft_edit None edit = omega arith
heft_edit (Some directory) edit = omega (arith, weight_more directory.1 edit)

heft_less : (directory : Option (Option ℕ × List Edit)) (key : List ℕ) (edit : Edit) (others : List (List ℕ × EntrySlot))
    → heft (less_inside directory key edit others) ≤ waiting directory + heft others + 2 * edit_length edit
unfolding waiting
heft_less None key edit others = omega arith
heft_less (Some directory) key edit others =
    omega (arith, heft_put others key (Directory directory.0 (directory.1 ++ edit ∷ [])), weight_more directory.1 edit)

heft_after : (edit : Edit) (slots : List (List ℕ × EntrySlot)) → heft (slots_after edit slots) + 2 ≤ heft slots + 2 * edit_length edit
heft_after (Set [] mode oid) slots = omega arith
heft_after (Set (name ∷ []) mode oid) slots =
    omega (arith, heft_put (without (directory_key name) slots) name (File mode oid), heft_without (directory_key name) slots)
heft_after (Set (name ∷ next ∷ rest) mode oid) slots =
    let key = directory_key name in
    let others = without name slots in
    let edit = Set (next ∷ rest) mode oid in
    let directory = directory_at key others in
    omega (arith, heft_put (without key others) key (with_edit directory edit), heft_edit directory edit, heft_found key others, heft_without name slots)
heft_after (Remove []) slots = omega arith
heft_after (Remove (name ∷ [])) slots = omega (arith, heft_without (directory_key name) (without name slots), heft_without name slots)
heft_after (Remove (name ∷ next ∷ rest)) slots =
    let key = directory_key name in
    omega (arith, heft_less (directory_at key slots) key (Remove (next ∷ rest)) (without key slots), heft_found key slots)
heft_after Clear slots = omega arith

pub heft_edited : (edits : List Edit) (slots : List (List ℕ × EntrySlot))
    → heft (fold (λ slots edit. slots_after edit slots) slots edits) + 2 * length edits ≤ heft slots + weight edits
heft_edited [] slots = omega arith
heft_edited (edit ∷ edits) slots =
    let more = heft_edited edits (slots_after edit slots) in
    let here = heft_after edit slots in
    omega (arith, more, here)

heft_kind : (k : EntryKind) → slot_heft (slot_of k) ≡ 0
heft_kind (kind.File mode oid) = refl
heft_kind (kind.Directory number) = refl

pub heft_entries : (entries : List Entry) → heft (slots_of entries) ≡ 0
heft_entries [] = refl
heft_entries (entry ∷ entries) = omega (arith, heft_kind entry.kind, heft_entries entries)
