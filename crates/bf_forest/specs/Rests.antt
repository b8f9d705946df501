-- The entries of a directory that is edited: changes over old entries, which are kept as their numbers.
use Rattle.std.specs.Prelude.{◌≡◌, ℕ, ◌+◌, ◌<◌, Bool, true, List, [], ◌∷◌, ◌++◌, length, take, drop, fold, Option, Some, None}
use Rattle.std.specs.Ordering.{nat_cmp, is_lt}
use Rattle.std.specs.Cmp.Lexicographic.{slice_cmp}
use Rattle.std.specs.List.{list_all, slice_index_or}
use Rattle.bf_oid.specs.declared.object.Mode.{Mode}
use Rattle.bf_oid.specs.declared.object.Oid.{Oid}
use Rattle.bf_forest.specs.declared.edits.Edit.{Edit}
use Rattle.bf_forest.specs.declared.edits.Edit.TheVariants.{Set, Remove, Clear}
use Rattle.bf_forest.specs.declared.nodes.Entry.{Entry}
use Rattle.bf_forest.specs.declared.slots.EntrySlot.{EntrySlot}
use Rattle.bf_forest.specs.declared.slots.EntrySlot.TheVariants.{File, Directory}
use Rattle.bf_forest.specs.declared.slots.Rest.{Rest}
use Rattle.bf_forest.specs.Nodes.{entry_at, stood, are_within}
use Rattle.bf_forest.specs.Overlays.{overlaid, are_from}
use Rattle.bf_forest.specs.Slots.{directory_key, put, without, directory_at, with_edit, slots_of, slots_after, are_in_order}

-- numbers of entries in order of their keys
abbrev pub IsOld : List Entry → List ℕ → Type 0
IsOld table numbers = (are_within (length table) numbers ≡ true) × (are_in_order (stood table numbers) ≡ true)

-- the key of the entry whose number stands at a place
abbrev pub key_at : List Entry → List ℕ → ℕ → List ℕ
key_at table numbers place = (entry_at table (slice_index_or numbers place 0)).key

-- the entry at a place has a key below another one
abbrev pub is_before_key : List Entry → List ℕ → List ℕ → ℕ → Bool
is_before_key table numbers key place = is_lt (slice_cmp nat_cmp (key_at table numbers place) key)

-- a key stands at a place, and this is the place behind it
abbrev pub IsBehindKey : List Entry → List ℕ → List ℕ → ℕ → ℕ → Type 0
IsBehindKey table numbers key place end = (end ≡ place + 1) × (place < length numbers) × (key_at table numbers place ≡ key)

-- a key does not stand at a place, and this is the place
abbrev pub IsKeyMissing : List Entry → List ℕ → List ℕ → ℕ → ℕ → Type 0
IsKeyMissing table numbers key place end = (end ≡ place) × (place < length numbers → key_at table numbers place ≡ key → ⊥)

-- numbers without some in front
abbrev pub IsShorter : List ℕ → List ℕ → Type 0
IsShorter numbers all = (count : ℕ) × (numbers ≡ drop count all)

-- the old entries with these numbers
abbrev pub old_slots : List Entry → List ℕ → List (List ℕ × EntrySlot)
old_slots table numbers = slots_of (stood table numbers)

-- the directory at a key, in old entries with changes over them
abbrev pub standing_directory : List Entry → List ℕ → List (List ℕ × Option EntrySlot) → List ℕ → Option (Option ℕ × List Edit)
standing_directory table numbers changes key = directory_at key (overlaid (old_slots table numbers) changes)

-- the entries, with what waits in them
abbrev pub slots_in : List Entry → Rest → List (List ℕ × EntrySlot)
slots_in table rest = overlaid (old_slots table rest.base) rest.changes.entries

-- the entries, with one change in front of the others
abbrev pub slots_with : List Entry → Rest → List ℕ → Option EntrySlot → List (List ℕ × EntrySlot)
slots_with table rest key change = overlaid (old_slots table rest.base) ((key, change) ∷ rest.changes.entries)

-- a directory that no edits wait in
abbrev pub old_directory : Option ℕ → Option (Option ℕ × List Edit)
old_directory None = None
old_directory (Some number) = Some (Some number, [])

-- ---- what an edit makes of the changes

-- a file is to stand at a name, and no directory
abbrev pub file_changes : List (List ℕ × Option EntrySlot) → List ℕ → Mode → Oid → List (List ℕ × Option EntrySlot)
file_changes changes name mode oid = put (put changes (directory_key name) None) name (Some (File mode oid))

-- neither a file nor a directory is to stand at a name
abbrev pub gone_changes : List (List ℕ × Option EntrySlot) → List ℕ → List (List ℕ × Option EntrySlot)
gone_changes changes name = put (put changes name None) (directory_key name) None

abbrev pub set_changes : List (List ℕ × EntrySlot) → List ℕ → Edit → List (List ℕ × Option EntrySlot) → List (List ℕ × Option EntrySlot)
set_changes slots name edit changes =
    put (gone_changes changes name) (directory_key name)
    (Some (with_edit (directory_at (directory_key name) (overlaid slots (put changes name None))) edit))

abbrev pub less_change : Option (Option ℕ × List Edit) → List ℕ → Edit → List (List ℕ × Option EntrySlot) → List (List ℕ × Option EntrySlot)
less_change None key edit changes = changes
less_change (Some directory) key edit changes = put changes key (Some (Directory directory.0 (directory.1 ++ edit ∷ [])))

abbrev pub less_changes : List (List ℕ × EntrySlot) → List ℕ → Edit → List (List ℕ × Option EntrySlot) → List (List ℕ × Option EntrySlot)
less_changes slots name edit changes =
    less_change (directory_at (directory_key name) (overlaid slots changes)) (directory_key name) edit (put changes (directory_key name) None)

abbrev pub set_rest : List (List ℕ × EntrySlot) → List (List ℕ) → Mode → Oid → List (List ℕ × Option EntrySlot) → List (List ℕ × Option EntrySlot)
set_rest slots [] mode oid changes = changes
set_rest slots (name ∷ []) mode oid changes = file_changes changes name mode oid
set_rest slots (name ∷ next ∷ rest) mode oid changes = set_changes slots name (Set (next ∷ rest) mode oid) changes

abbrev pub remove_rest : List (List ℕ × EntrySlot) → List (List ℕ) → List (List ℕ × Option EntrySlot) → List (List ℕ × Option EntrySlot)
remove_rest slots [] changes = changes
remove_rest slots (name ∷ []) changes = gone_changes changes name
remove_rest slots (name ∷ next ∷ rest) changes = less_changes slots name (Remove (next ∷ rest)) changes

-- the changes after an edit of the entries
abbrev pub changes_after : List Entry → Rest → Edit → List (List ℕ × Option EntrySlot)
changes_after table rest (Set path mode oid) = set_rest (old_slots table rest.base) path mode oid rest.changes.entries
changes_after table rest (Remove path) = remove_rest (old_slots table rest.base) path rest.changes.entries
changes_after table rest Clear = []

-- the entries after an edit
abbrev pub FollowsEdit : List Entry → Rest → Edit → Rest → Type 0
FollowsEdit table before edit after = slots_in table after ≡ slots_after edit (slots_in table before)

-- the entries after edits, in order
abbrev pub FollowsEdits : List Entry → Rest → List Edit → Rest → Type 0
FollowsEdits table before edits after = slots_in table after ≡ fold (λ slots edit. slots_after edit slots) (slots_in table before) edits

-- ---- entries that are taken

-- entries below a key are taken, and the one that has it is passed
abbrev pub IsPassed : List Entry → List ℕ → List ℕ → List ℕ → List ℕ → List ℕ → Type 0
IsPassed table old new base rest key =
    (place : ℕ) × (new ≡ old ++ take place base)
    × (list_all (λ entry. is_lt (slice_cmp nat_cmp entry.key key)) (stood table (take place base)) ≡ true)
    × (are_from key (slots_of (stood table (drop place base))) ≡ true)
    × (slots_of (stood table rest) ≡ without key (slots_of (stood table (drop place base))))
    × IsShorter rest base
