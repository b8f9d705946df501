-- Edits of slots are edits of the files that they stand for.
use Rattle.std.proofs.Common.{◌≡◌, ℕ, ◌<◌, ◌≤◌, Bool, true, false, ◌&&◌, ◌||◌, cond, List, [], ◌∷◌, ◌++◌, nat_lt, length, max, Option, Some, None, refl, sym}
use Rattle.std.proofs.Common.{ap, ◌∙◌, arith}
use Rattle.std.specs.Ordering.{nat_cmp, is_eq, match_ordering}
use Rattle.std.specs.declared.cmp.Ordering.{Ordering}
use Rattle.std.specs.declared.cmp.Ordering.TheVariants.{Less, Equal, Greater}
use Rattle.std.specs.Cmp.Lexicographic.{slice_cmp}
use Rattle.std.specs.List.{list_all, list_any, fold}
use Rattle.std.proofs.lemmas.Bool.{false≢true, and_parts, and_from, cond-true, cond-false, ltb-true, lt-ltb, and_left, and_right, or_from}
use Rattle.std.proofs.lemmas.List.Folds.{list_all-append}
use Rattle.std.proofs.lemmas.List.Sums.{fold-append}
use Rattle.std.proofs.lemmas.Map.Lookups.{exact_bytes}
use Rattle.bf_oid.specs.declared.object.Mode.{Mode}
use Rattle.bf_oid.specs.declared.object.Oid.{Oid}
use Rattle.bf_paths.specs.Components.{is_path}
use Rattle.bf_forest.specs.declared.edits.Edit.{Edit}
use Rattle.bf_forest.specs.declared.edits.Edit.TheVariants.{Set, Remove, Clear}
use Rattle.bf_forest.specs.declared.edits.Part.TheVariants.{Outside}
use Rattle.bf_forest.specs.declared.slots.EntrySlot.{EntrySlot}
use Rattle.bf_forest.specs.declared.slots.EntrySlot.TheVariants.{File, Directory}
use Rattle.bf_forest.specs.Files.{Files, is_same, is_in_part, edited_by, edited, set_file, remove_file, is_tree}
use Rattle.bf_forest.specs.Listing.{name_in, Listing, is_listing, shown, beneath}
use Rattle.bf_forest.specs.Trees.{mode_text}
use Rattle.bf_forest.specs.Nodes.{IsSound}
use Rattle.bf_forest.specs.Slots.{directory_key, put, without, found, directory_of, directory_at, with_edit, less_inside, set_slots, remove_slots, slots_after}
use Rattle.bf_forest.specs.Slots.{has_path, base_files, slot_files, contents, edit_length, longest, is_base, is_slot}
use Rattle.bf_forest.proofs.Applied.{file_of, has-beneath, are_paths-set, are_paths-remove, keys_differ}
use Rattle.bf_forest.proofs.Changed.{IsInside, with_file, with_inside, with_less, without_both, at_left, listing-file, shown-file, listing-inside, shown-inside}
use Rattle.bf_forest.proofs.Changed.{shown-gone, shown-none, listing-less, shown-less, path_rest}
use Rattle.bf_forest.proofs.Entered.{all-put, all-without, listing-without, equal_is, not_equal}
use Rattle.bf_forest.proofs.Keys.{first_component, name_bytes, name_in-plain, name_in-slash, not_same}
use Rattle.bf_forest.proofs.Listed.{at_key}
use Rattle.bf_forest.proofs.Members.{has, are_paths, or_first, or_second}
use Rattle.bf_forest.proofs.Ordered.{is_tree-edited, is_tree-nil, is_tree-set, is_tree-filter, is_same-refl}

-- ---- the files of slots that are put and taken

contents-put : (trees : List Files) (slots : List (List ℕ × EntrySlot)) (key : List ℕ) (slot : EntrySlot)
    → contents trees (put slots key slot) ≡ put (contents trees slots) key (slot_files trees key slot)
contents-put trees [] key slot = refl
contents-put trees (e ∷ es) key slot =
    let files = slot_files trees key slot in
    let first : List ℕ × Files = (e.0, slot_files trees e.0 e.1) in
    let by : (o : Ordering) → slice_cmp nat_cmp key e.0 ≡ o
    → contents trees (match_ordering o ((key, slot) ∷ e ∷ es) ((e.0, slot) ∷ es) (e ∷ put es key slot))
    ≡ match_ordering o ((key, files) ∷ first ∷ contents trees es) ((e.0, files) ∷ contents trees es) (first ∷ put (contents trees es) key files) =
    λ o. elim o as (λ p. slice_cmp nat_cmp key e.0 ≡ p
    → contents trees (match_ordering p ((key, slot) ∷ e ∷ es) ((e.0, slot) ∷ es) (e ∷ put es key slot))
    ≡ match_ordering p ((key, files) ∷ first ∷ contents trees es) ((e.0, files) ∷ contents trees es) (first ∷ put (contents trees es) key files)) [
      | Less ↦ λ h. refl
      | Equal ↦ λ h. ap {A = Files} {B = Listing} (λ v. (e.0, v) ∷ contents trees es) (ap (λ k. slot_files trees k slot) (sym (exact_bytes key e.0 h)))
      | Greater ↦ λ h. ap (λ v. first ∷ v) (contents-put trees es key slot)
    ] in
    by (slice_cmp nat_cmp key e.0) refl

contents-without : (trees : List Files) (key : List ℕ) (slots : List (List ℕ × EntrySlot)) → contents trees (without key slots) ≡ without key (contents trees slots)
contents-without trees key [] = refl
contents-without trees key (e ∷ es) =
    let first : List ℕ × Files = (e.0, slot_files trees e.0 e.1) in
    elim (is_eq (slice_cmp nat_cmp key e.0)) as (λ b. contents trees (cond b es (e ∷ without key es)) ≡ cond b (contents trees es)
    (first ∷ without key (contents trees es))) [
      | true ↦ refl
      | false ↦ ap (λ v. first ∷ v) (contents-without trees key es)
    ]

-- the files of what is found
found_files : List Files → List ℕ → Option EntrySlot → Files
found_files trees key None = []
found_files trees key (Some slot) = slot_files trees key slot

at-contents : (trees : List Files) (key : List ℕ) (slots : List (List ℕ × EntrySlot)) → at_key key (contents trees slots) ≡ found_files trees key (found key slots)
unfolding found_files
at-contents trees key [] = refl
at-contents trees key (e ∷ es) =
    let by : (b : Bool) → is_eq (slice_cmp nat_cmp key e.0) ≡ b
    → at_key key (contents trees (e ∷ es)) ≡ found_files trees key (cond b (Some e.1) (found key es)) =
    λ b. elim b as (λ v. is_eq (slice_cmp nat_cmp key e.0) ≡ v
    → at_key key (contents trees (e ∷ es)) ≡ found_files trees key (cond v (Some e.1) (found key es))) [
      | true ↦ λ h.
          let same : key ≡ e.0 = exact_bytes key e.0 (equal_is _ h) in
          cond-true _ _ _ (ap (is_same key) (sym same) ∙ is_same-refl key) ∙ ap (λ k. slot_files trees k e.1) (sym same)
      | false ↦ λ h. cond-false _ _ _ (not_equal key e.0 h) ∙ at-contents trees key es
    ] in
    by (is_eq (slice_cmp nat_cmp key e.0)) refl

-- ---- what waits in a directory

-- the files in the directory that is found
inside_of_slot : List Files → Option (Option ℕ × List Edit) → Files
inside_of_slot trees None = []
inside_of_slot trees (Some directory) = edited (base_files trees directory.0) directory.1

slot_inside : (trees : List Files) (name : List ℕ) (slot : Option EntrySlot) (next : List ℕ) (rest : List (List ℕ)) (m : Mode) (o : Oid)
    → has (file_of (name ∷ next ∷ rest) m o) (found_files trees (directory_key name) slot) ≡ has (file_of (next ∷ rest) m o)
    (inside_of_slot trees (directory_of slot))
unfolding found_files inside_of_slot
slot_inside trees name None next rest m o = refl
slot_inside trees name (Some (File mode oid)) next rest m o =
    or_from _ false
    (and_left _ (is_same o.0 oid.0) (and_left _ (is_same (mode_text m) (mode_text mode)) (and_right (is_same name (name_in (directory_key name))) false refl)))
    refl
slot_inside trees name (Some (Directory base pending)) next rest m o =
    ap (λ v. has (file_of (name ∷ next ∷ rest) m o) (beneath v (edited (base_files trees base) pending))) (name_in-slash name)
    ∙ has-beneath name (next ∷ rest) m o (edited (base_files trees base) pending)

is_inside : (trees : List Files) (name : List ℕ) (slots : List (List ℕ × EntrySlot))
    → IsInside name (contents trees slots) (inside_of_slot trees (directory_at (directory_key name) slots))
is_inside trees name slots next rest m o =
    ap (has (file_of (name ∷ next ∷ rest) m o)) (at-contents trees (directory_key name) slots) ∙ slot_inside trees name (found (directory_key name) slots) next
    rest m o

-- ---- edits leave paths

are_paths-edited_by : (files : Files) (edit : Edit) → has_path edit ≡ true → are_paths files ≡ true → are_paths (edited_by files edit) ≡ true
are_paths-edited_by files (Set path mode oid) p h = are_paths-set path mode oid files p h
are_paths-edited_by files (Remove path) p h = are_paths-remove path files h
are_paths-edited_by files Clear p h = refl

pub are_paths-edited : (edits : List Edit) (files : Files) → list_all has_path edits ≡ true → are_paths files ≡ true → are_paths (edited files edits) ≡ true
unfolding edited
are_paths-edited [] files p h = h
are_paths-edited (edit ∷ edits) files p h =
    are_paths-edited edits (edited_by files edit) (and_parts (has_path edit) _ p).1
    (are_paths-edited_by files edit (and_parts (has_path edit) (list_all has_path edits) p).0 h)

edited-more : (files : Files) (edits : List Edit) (edit : Edit) → edited files (edits ++ edit ∷ []) ≡ edited_by (edited files edits) edit
unfolding edited
edited-more files edits edit = fold-append edited_by files edits (edit ∷ [])

edited-one : (edit : Edit) → edited [] (edit ∷ []) ≡ edited_by [] edit
unfolding edited
edited-one edit = refl

-- ---- what is known of the slots of a directory

abbrev pub IsSlots : List Files → ℕ → List (List ℕ × EntrySlot) → Type 0
IsSlots trees bound slots = (is_listing (contents trees slots) ≡ true) × (list_all (λ slot. is_slot (length trees) bound slot.1) slots ≡ true)

found_passes : (p : EntrySlot → Bool) (key : List ℕ) (slots : List (List ℕ × EntrySlot)) (slot : EntrySlot) → list_all (λ s. p s.1) slots ≡ true → found key slots ≡ Some slot
    → p slot ≡ true
found_passes p key [] slot h e = absurd (cc)
found_passes p key (s ∷ slots) slot h e =
    let by : (b : Bool) → cond b (Some s.1) (found key slots) ≡ Some slot → p slot ≡ true =
    λ b. elim b as (λ v. cond v (Some s.1) (found key slots) ≡ Some slot → p slot ≡ true) [
      | true ↦ λ k. let same : s.1 ≡ slot = cc in ap p (sym same) ∙ (and_parts (p s.1) _ h).0
      | false ↦ λ k. found_passes p key slots slot (and_parts (p s.1) _ h).1 k
    ] in
    by (is_eq (slice_cmp nat_cmp key s.0)) e

found_there : (trees : List Files) (key : List ℕ) (slots : List (List ℕ × EntrySlot)) (slot : EntrySlot) → found key slots ≡ Some slot
    → list_any (λ e. is_same key e.0) (contents trees slots) ≡ true
found_there trees key [] slot e = absurd (cc)
found_there trees key (s ∷ slots) slot e =
    let by : (b : Bool) → is_eq (slice_cmp nat_cmp key s.0) ≡ b → cond b (Some s.1) (found key slots) ≡ Some slot
    → (is_same key s.0 || list_any (λ e. is_same key e.0) (contents trees slots)) ≡ true =
    λ b. elim b as (λ v. is_eq (slice_cmp nat_cmp key s.0) ≡ v → cond v (Some s.1) (found key slots) ≡ Some slot
    → (is_same key s.0 || list_any (λ e. is_same key e.0) (contents trees slots)) ≡ true) [
      | true ↦ λ h k. or_first _ _ (ap (is_same key) (sym (exact_bytes key s.0 (equal_is _ h))) ∙ is_same-refl key)
      | false ↦ λ h k. or_second (is_same key s.0) _ (found_there trees key slots slot k)
    ] in
    by (is_eq (slice_cmp nat_cmp key s.0)) refl e

-- what is known of the directory that is found
abbrev IsKnown : List Files → ℕ → Option (Option ℕ × List Edit) → Type 0
IsKnown trees bound None = Unit {0}
IsKnown trees bound (Some directory) = (is_base (length trees) directory.0 ≡ true) × (list_all has_path directory.1 ≡ true) × (longest directory.1 < bound)

known_slot : (trees : List Files) (bound : ℕ) (slot : EntrySlot) → is_slot (length trees) bound slot ≡ true → IsKnown trees bound (directory_of (Some slot))
known_slot trees bound (File mode oid) h = tt
known_slot trees bound (Directory base pending) h =
    let parts = and_parts (is_base (length trees) base) _ h in
    let more = and_parts (list_all has_path pending) (nat_lt (longest pending) bound) parts.1 in
    (parts.0, more.0, ltb-true (longest pending) bound more.1)

known : (trees : List Files) (bound : ℕ) (key : List ℕ) (slots : List (List ℕ × EntrySlot)) → list_all (λ slot. is_slot (length trees) bound slot.1) slots ≡ true
    → IsKnown trees bound (directory_at key slots)
known trees bound key slots h =
    let by : (o : Option EntrySlot) → found key slots ≡ o → IsKnown trees bound (directory_of o) =
    λ o. elim o as (λ v. found key slots ≡ v → IsKnown trees bound (directory_of v)) [
      | None ↦ λ e. tt
      | Some slot ↦ λ e. known_slot trees bound slot (found_passes (is_slot (length trees) bound) key slots slot h e)
    ] in
    by (found key slots) refl

pub base-sound : (trees : List Files) (base : Option ℕ) → IsSound trees → is_base (length trees) base ≡ true
    → (are_paths (base_files trees base) ≡ true) × (is_tree (base_files trees base) ≡ true)
base-sound trees None sound h = (refl, is_tree-nil)
base-sound trees (Some number) sound h = sound number (ltb-true number (length trees) h)

inside-sound : (trees : List Files) (bound : ℕ) (directory : Option (Option ℕ × List Edit)) → IsSound trees → IsKnown trees bound directory
    → (are_paths (inside_of_slot trees directory) ≡ true) × (is_tree (inside_of_slot trees directory) ≡ true)
unfolding inside_of_slot
inside-sound trees bound None sound h = (refl, is_tree-nil)
inside-sound trees bound (Some directory) sound h =
    let base = base-sound trees directory.0 sound h.0 in
    (are_paths-edited directory.1 (base_files trees directory.0) h.1 base.0, is_tree-edited (base_files trees directory.0) directory.1 base.1)

-- ---- one more edit waits

longest-more : (edits : List Edit) (edit : Edit) → longest (edits ++ edit ∷ []) ≡ max (longest edits) (edit_length edit)
longest-more [] edit = omega arith
longest-more (first ∷ edits) edit = let more = longest-more edits edit in omega (arith, more)

slot-more : (trees : List Files) (bound : ℕ) (directory : Option (Option ℕ × List Edit)) (edit : Edit) → IsKnown trees bound directory → has_path edit ≡ true
    → edit_length edit < bound
    → is_slot (length trees) bound (with_edit directory edit) ≡ true
slot-more trees bound None edit h p l = and_from (list_all has_path (edit ∷ [])) _ (and_from _ _ p refl) (lt-ltb (longest (edit ∷ [])) bound (omega arith))
slot-more trees bound (Some directory) edit h p l =
    and_from _ _ h.0
    (and_from _ _ (list_all-append has_path directory.1 (edit ∷ []) ∙ and_from _ _ h.1 (and_from _ _ p refl))
    (lt-ltb (longest (directory.1 ++ edit ∷ [])) bound (omega (arith, longest-more directory.1 edit, h.2))))

files-more : (trees : List Files) (name : List ℕ) (directory : Option (Option ℕ × List Edit)) (edit : Edit)
    → slot_files trees (directory_key name) (with_edit directory edit) ≡ beneath name (edited_by (inside_of_slot trees directory) edit)
unfolding inside_of_slot
files-more trees name None edit = ap (λ v. beneath v (edited [] (edit ∷ []))) (name_in-slash name) ∙ ap (beneath name) (edited-one edit)
files-more trees name (Some directory) edit =
    ap (λ v. beneath v (edited (base_files trees directory.0) (directory.1 ++ edit ∷ []))) (name_in-slash name)
    ∙ ap (beneath name) (edited-more (base_files trees directory.0) directory.1 edit)

-- ---- an edit of slots is an edit of files

-- the slots after an edit, and their files
abbrev IsStep : List Files → ℕ → List (List ℕ × EntrySlot) → Files → Type 0
IsStep trees bound slots files = IsSlots trees bound slots × (shown (contents trees slots) ≡ files)

step-from : (trees : List Files) (bound : ℕ) (slots : List (List ℕ × EntrySlot)) (list : Listing) (files : Files) → contents trees slots ≡ list
    → is_listing list ≡ true → shown list ≡ files
    → list_all (λ slot. is_slot (length trees) bound slot.1) slots ≡ true → IsStep trees bound slots files
step-from trees bound slots list files e h k l = ((ap is_listing e ∙ h, l), ap shown e ∙ k)

set_here : (trees : List Files) (bound : ℕ) (slots : List (List ℕ × EntrySlot)) (name : List ℕ) (m : Mode) (o : Oid) → IsSlots trees bound slots
    → is_path (name ∷ []) ≡ true
    → IsStep trees bound (set_slots (name ∷ []) m o slots) (set_file (name ∷ []) m o (shown (contents trees slots)))
set_here trees bound slots name m o h p =
    let list = contents trees slots in
    let c = first_component name [] p in
    let key = directory_key name in
    step-from trees bound (set_slots (name ∷ []) m o slots) (with_file name m o list) (set_file (name ∷ []) m o (shown list))
    (contents-put trees (without key slots) name (File m o) ∙ ap (λ v. put v name (slot_files trees name (File m o))) (contents-without trees key slots)
    ∙ ap (λ v. put (without key list) name (file_of (v ∷ []) m o ∷ [])) (name_in-plain name (name_bytes name c)))
    (listing-file name m o list c h.0) (shown-file name m o list p h.0)
    (all-put (λ slot. is_slot (length trees) bound slot.1) name (File m o) (without key slots) (λ q e. refl)
    (all-without (λ slot. is_slot (length trees) bound slot.1) key slots h.1))

set_deep : (trees : List Files) (bound : ℕ) (slots : List (List ℕ × EntrySlot)) (name p : List ℕ) (r : List (List ℕ)) (m : Mode) (o : Oid) → IsSound trees
    → IsSlots trees bound slots
    → is_path (name ∷ p ∷ r) ≡ true → length (name ∷ p ∷ r) < bound
    → IsStep trees bound (set_slots (name ∷ p ∷ r) m o slots) (set_file (name ∷ p ∷ r) m o (shown (contents trees slots)))
set_deep trees bound slots name p r m o sound h hp l =
    let list = contents trees slots in
    let c = first_component name (p ∷ r) hp in
    let key = directory_key name in
    let others = without name slots in
    let edit = Set (p ∷ r) m o in
    let all_others = all-without (λ slot. is_slot (length trees) bound slot.1) name slots h.1 in
    let directory = directory_at key others in
    let is_known = known trees bound key others all_others in
    let inside = inside_of_slot trees directory in
    let good = inside-sound trees bound directory sound is_known in
    let q = path_rest name p r hp in
    let is : IsInside name list inside =
    λ next rest k v.
    ap (has (file_of (name ∷ next ∷ rest) k v)) (sym (at_left key name list h.0 (not_same name key (keys_differ name c))) ∙ ap (at_key key)
    (sym (contents-without trees name slots)))
    ∙ is_inside trees name others next rest k v in
    step-from trees bound (set_slots (name ∷ p ∷ r) m o slots) (with_inside name (set_file (p ∷ r) m o inside) list) (set_file (name ∷ p ∷ r) m o (shown list))
    (contents-put trees (without key others) key (with_edit directory edit)
    ∙ ap (λ v. put v key (slot_files trees key (with_edit directory edit)))
    (contents-without trees key others ∙ ap (without key) (contents-without trees name slots))
    ∙ ap (put (without key (without name list)) key) (files-more trees name directory edit))
    (listing-inside name (set_file (p ∷ r) m o inside) list c h.0 (are_paths-set (p ∷ r) m o inside q good.0) (is_tree-set (p ∷ r) m o inside good.1))
    (shown-inside name p r m o list inside hp h.0 good.0 good.1 is)
    (all-put (λ slot. is_slot (length trees) bound slot.1) key (with_edit directory edit) (without key others)
    (λ k e. slot-more trees bound directory edit is_known q (omega arith))
    (all-without (λ slot. is_slot (length trees) bound slot.1) key others all_others))

remove_here : (trees : List Files) (bound : ℕ) (slots : List (List ℕ × EntrySlot)) (name : List ℕ) → IsSlots trees bound slots → is_path (name ∷ []) ≡ true
    → IsStep trees bound (remove_slots (name ∷ []) slots) (remove_file (name ∷ []) (shown (contents trees slots)))
remove_here trees bound slots name h p =
    let list = contents trees slots in
    let key = directory_key name in
    step-from trees bound (remove_slots (name ∷ []) slots) (without_both name list) (remove_file (name ∷ []) (shown list))
    (contents-without trees key (without name slots) ∙ ap (without key) (contents-without trees name slots))
    (listing-without key (without name list) (listing-without name list h.0)) (shown-gone name list p h.0)
    (all-without (λ slot. is_slot (length trees) bound slot.1) key (without name slots)
    (all-without (λ slot. is_slot (length trees) bound slot.1) name slots h.1))

nothing : (trees : List Files) (next : List ℕ) (rest : List (List ℕ)) (m : Mode) (o : Oid) → has (file_of (next ∷ rest) m o) (inside_of_slot trees None) ≡ false
unfolding inside_of_slot
nothing trees next rest m o = refl

gone : (trees : List Files) (bound : ℕ) (slots : List (List ℕ × EntrySlot)) (name p : List ℕ) (r : List (List ℕ)) → IsSlots trees bound slots
    → is_path (name ∷ p ∷ r) ≡ true
    → IsInside name (contents trees slots) [] → IsStep trees bound (without (directory_key name) slots)
    (remove_file (name ∷ p ∷ r) (shown (contents trees slots)))
gone trees bound slots name p r h hp is =
    let list = contents trees slots in
    let key = directory_key name in
    step-from trees bound (without key slots) (without key list) (remove_file (name ∷ p ∷ r) (shown list)) (contents-without trees key slots)
    (listing-without key list h.0)
    (shown-none name p r list hp h.0 is) (all-without (λ slot. is_slot (length trees) bound slot.1) key slots h.1)

some : (trees : List Files) (bound : ℕ) (slots : List (List ℕ × EntrySlot)) (name p : List ℕ) (r : List (List ℕ)) → IsSound trees → IsSlots trees bound slots
    → is_path (name ∷ p ∷ r) ≡ true → length (name ∷ p ∷ r) < bound → (slot : EntrySlot) → found (directory_key name) slots ≡ Some slot
    → IsStep trees bound (less_inside (directory_of (Some slot)) (directory_key name) (Remove (p ∷ r)) (without (directory_key name) slots))
    (remove_file (name ∷ p ∷ r) (shown (contents trees slots)))
some trees bound slots name p r sound h hp l (File mode oid) e =
    gone trees bound slots name p r h hp
    (λ next rest m o. is_inside trees name slots next rest m o ∙ ap (λ s. has (file_of (next ∷ rest) m o) (inside_of_slot trees (directory_of s))) e ∙ nothing
    trees next rest m o)
some trees bound slots name p r sound h hp l (Directory base pending) e =
    let list = contents trees slots in
    let key = directory_key name in
    let others = without key slots in
    let edit = Remove (p ∷ r) in
    let directory : Option (Option ℕ × List Edit) = Some (base, pending) in
    let is_known : IsKnown trees bound directory = known_slot trees bound (Directory base pending)
    (found_passes (is_slot (length trees) bound) key slots (Directory base pending) h.1 e) in
    let inside = inside_of_slot trees directory in
    let good = inside-sound trees bound directory sound is_known in
    let q = path_rest name p r hp in
    let c = first_component name (p ∷ r) hp in
    let is : IsInside name list inside =
    λ next rest m o. is_inside trees name slots next rest m o ∙ ap (λ s. has (file_of (next ∷ rest) m o) (inside_of_slot trees (directory_of s))) e in
    let there = found_there trees key slots (Directory base pending) e in
    step-from trees bound (put others key (with_edit directory edit)) (with_less name (remove_file (p ∷ r) inside) list)
    (remove_file (name ∷ p ∷ r) (shown list))
    (contents-put trees others key (with_edit directory edit)
    ∙ ap (λ v. put v key (slot_files trees key (with_edit directory edit))) (contents-without trees key slots)
    ∙ ap (put (without key list) key) (files-more trees name directory edit))
    (listing-less name (remove_file (p ∷ r) inside) list c h.0 (are_paths-remove (p ∷ r) inside good.0)
    (is_tree-filter (is_in_part Outside (p ∷ r)) inside good.1) there)
    (shown-less name p r list inside hp h.0 good.0 good.1 is there)
    (all-put (λ slot. is_slot (length trees) bound slot.1) key (with_edit directory edit) others
    (λ k d. slot-more trees bound directory edit is_known q (omega arith))
    (all-without (λ slot. is_slot (length trees) bound slot.1) key slots h.1))

remove_deep : (trees : List Files) (bound : ℕ) (slots : List (List ℕ × EntrySlot)) (name p : List ℕ) (r : List (List ℕ)) → IsSound trees → IsSlots trees bound slots
    → is_path (name ∷ p ∷ r) ≡ true → length (name ∷ p ∷ r) < bound
    → IsStep trees bound (remove_slots (name ∷ p ∷ r) slots) (remove_file (name ∷ p ∷ r) (shown (contents trees slots)))
remove_deep trees bound slots name p r sound h hp l =
    let list = contents trees slots in
    let key = directory_key name in
    let others = without key slots in
    let all_others = all-without (λ slot. is_slot (length trees) bound slot.1) key slots h.1 in
    let files = remove_file (name ∷ p ∷ r) (shown list) in
    let edit = Remove (p ∷ r) in
    let c = first_component name (p ∷ r) hp in
    let q = path_rest name p r hp in
    let there : (slot : Option EntrySlot) → found key slots ≡ slot → IsStep trees bound (less_inside (directory_of slot) key edit others) files =
    λ slot. elim slot as (λ s. found key slots ≡ s → IsStep trees bound (less_inside (directory_of s) key edit others) files) [
      | None ↦ λ e. gone trees bound slots name p r h hp
          (λ next rest m o. is_inside trees name slots next rest m o ∙ ap (λ s. has (file_of (next ∷ rest) m o) (inside_of_slot trees (directory_of s))) e ∙
          nothing trees next rest m o)
      | Some s ↦ λ e. some trees bound slots name p r sound h hp l s e
    ] in
    there (found key slots) refl

step : (trees : List Files) (bound : ℕ) (slots : List (List ℕ × EntrySlot)) (edit : Edit) → IsSound trees → IsSlots trees bound slots → has_path edit ≡ true
    → edit_length edit ≤ bound
    → IsStep trees bound (slots_after edit slots) (edited_by (shown (contents trees slots)) edit)
unfolding is_listing
step trees bound slots (Set [] m o) sound h p l = absurd (false≢true p)
step trees bound slots (Set (name ∷ []) m o) sound h p l = set_here trees bound slots name m o h p
step trees bound slots (Set (name ∷ next ∷ rest) m o) sound h p l = set_deep trees bound slots name next rest m o sound h p (omega arith)
step trees bound slots (Remove []) sound h p l = absurd (false≢true p)
step trees bound slots (Remove (name ∷ [])) sound h p l = remove_here trees bound slots name h p
step trees bound slots (Remove (name ∷ next ∷ rest)) sound h p l = remove_deep trees bound slots name next rest sound h p (omega arith)
step trees bound slots Clear sound h p l = ((refl, refl), refl)

pub slots_edited : (trees : List Files) (bound : ℕ) (edits : List Edit) (slots : List (List ℕ × EntrySlot)) → IsSound trees → IsSlots trees bound slots
    → list_all has_path edits ≡ true → longest edits ≤ bound
    → IsSlots trees bound (fold (λ slots edit. slots_after edit slots) slots edits)
    × (shown (contents trees (fold (λ slots edit. slots_after edit slots) slots edits)) ≡ edited (shown (contents trees slots)) edits)
unfolding edited
slots_edited trees bound [] slots sound h p l = (h, refl)
slots_edited trees bound (edit ∷ edits) slots sound h p l =
    let parts = and_parts (has_path edit) (list_all has_path edits) p in
    let first = step trees bound slots edit sound h parts.0 (omega arith) in
    let rest = slots_edited trees bound edits (slots_after edit slots) sound first.0 parts.1 (omega arith) in
    (rest.0, rest.1 ∙ ap (λ v. fold edited_by v edits) first.1)

-- ---- bounds

slot_wider : (count : ℕ) (bound : ℕ) (slot : EntrySlot) → 1 ≤ bound → is_slot count 1 slot ≡ true → is_slot count bound slot ≡ true
slot_wider count bound (File mode oid) l h = refl
slot_wider count bound (Directory base pending) l h =
    let parts = and_parts (is_base count base) (list_all has_path pending && nat_lt (longest pending) 1) h in
    let more = and_parts (list_all has_path pending) (nat_lt (longest pending) 1) parts.1 in
    let less = ltb-true (longest pending) 1 more.1 in
    and_from _ _ parts.0 (and_from _ _ more.0 (lt-ltb (longest pending) bound (omega (arith, less, l))))

pub slots_wider : (count : ℕ) (bound : ℕ) (slots : List (List ℕ × EntrySlot)) → 1 ≤ bound → list_all (λ slot. is_slot count 1 slot.1) slots ≡ true
    → list_all (λ slot. is_slot count bound slot.1) slots ≡ true
slots_wider count bound [] l h = refl
slots_wider count bound (slot ∷ slots) l h =
    and_from _ _ (slot_wider count bound slot.1 l (and_parts _ _ h).0) (slots_wider count bound slots l (and_parts (is_slot count 1 slot.1) _ h).1)

edit_long : (edit : Edit) → 1 ≤ edit_length edit
edit_long (Set path mode oid) = omega arith
edit_long (Remove path) = omega arith
edit_long Clear = omega arith

pub longest_some : (edits : List Edit) → 0 < length edits → 1 ≤ longest edits
longest_some [] h = absurd (omega arith)
longest_some (edit ∷ edits) h = let long = edit_long edit in omega (arith, long)
