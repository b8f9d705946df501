-- A directory that is being edited. An edit changes the entry that its path leads to or through. What it changes
-- deeper waits there, so each directory is made only once.
use Rattle.std.specs.Prelude.{ℕ, suc, max, Bool, true, ◌&&◌, nat_lt, List, [], ◌∷◌, ◌++◌, length, map, Option, Some, None}
use Rattle.std.specs.Ordering.{nat_cmp, is_lt}
use Rattle.std.specs.Cmp.Lexicographic.{slice_cmp}
use Rattle.std.specs.List.{list_all}
use Rattle.std.specs.BTreeMap.{insert_entry, is_at}
use Rattle.std.specs.Map.{remove_entry, lookup}
use Rattle.bf_oid.specs.declared.object.Mode.{Mode}
use Rattle.bf_oid.specs.declared.object.Oid.{Oid}
use Rattle.bf_paths.specs.Components.{is_path}
use Rattle.bf_forest.specs.declared.edits.Edit.{Edit}
use Rattle.bf_forest.specs.declared.edits.Edit.TheVariants.{Set, Remove, Clear}
use Rattle.bf_forest.specs.declared.nodes.Entry.{Entry}
use Rattle.bf_forest.specs.declared.nodes.EntryKind.{EntryKind}
use Rattle.bf_forest.specs.declared.nodes.EntryKind.TheVariants as kind
use Rattle.bf_forest.specs.declared.slots.EntrySlot.{EntrySlot}
use Rattle.bf_forest.specs.declared.slots.EntrySlot.TheVariants.{File, Directory}
use Rattle.bf_forest.specs.Files.{Files, edited}
use Rattle.bf_forest.specs.Listing.{name_in, Listing, beneath}
use Rattle.bf_forest.specs.Trees.{directories, files_at, or_none, where_some}

-- the key of the directory with a name
abbrev pub directory_key : List ℕ → List ℕ
directory_key name = name ++ 47 ∷ []

-- entries with one more, which takes the place of that with its key
abbrev pub put : {X : Type 0} → List (List ℕ × X) → List ℕ → X → List (List ℕ × X)
put entries key entry = insert_entry (slice_cmp nat_cmp) entries key entry

-- entries without that with a key
abbrev pub without : {X : Type 0} → List ℕ → List (List ℕ × X) → List (List ℕ × X)
without key entries = remove_entry (is_at (slice_cmp nat_cmp key)) entries

abbrev pub found : {X : Type 0} → List ℕ → List (List ℕ × X) → Option X
found key entries = lookup (is_at (slice_cmp nat_cmp key)) entries

-- ---- what an edit makes of the entries

abbrev pub directory_of : Option EntrySlot → Option (Option ℕ × List Edit)
directory_of None = None
directory_of (Some (File mode oid)) = None
directory_of (Some (Directory base pending)) = Some (base, pending)

abbrev pub directory_at : List ℕ → List (List ℕ × EntrySlot) → Option (Option ℕ × List Edit)
directory_at key slots = directory_of (found key slots)

-- one more edit waits, in the directory that is there or in an empty one
abbrev pub with_edit : Option (Option ℕ × List Edit) → Edit → EntrySlot
with_edit None edit = Directory None (edit ∷ [])
with_edit (Some directory) edit = Directory directory.0 (directory.1 ++ edit ∷ [])

-- one more edit waits in the directory, if there is one
abbrev pub less_inside : Option (Option ℕ × List Edit) → List ℕ → Edit → List (List ℕ × EntrySlot) → List (List ℕ × EntrySlot)
less_inside None key edit others = others
less_inside (Some directory) key edit others = put others key (Directory directory.0 (directory.1 ++ edit ∷ []))

abbrev pub set_slots : List (List ℕ) → Mode → Oid → List (List ℕ × EntrySlot) → List (List ℕ × EntrySlot)
set_slots [] mode oid slots = slots
set_slots (name ∷ []) mode oid slots = put (without (directory_key name) slots) name (File mode oid)
set_slots (name ∷ next ∷ rest) mode oid slots =
    put (without (directory_key name) (without name slots)) (directory_key name)
    (with_edit (directory_at (directory_key name) (without name slots)) (Set (next ∷ rest) mode oid))

abbrev pub remove_slots : List (List ℕ) → List (List ℕ × EntrySlot) → List (List ℕ × EntrySlot)
remove_slots [] slots = slots
remove_slots (name ∷ []) slots = without (directory_key name) (without name slots)
remove_slots (name ∷ next ∷ rest) slots =
    less_inside (directory_at (directory_key name) slots) (directory_key name) (Remove (next ∷ rest)) (without (directory_key name) slots)

abbrev pub slots_after : Edit → List (List ℕ × EntrySlot) → List (List ℕ × EntrySlot)
slots_after (Set path mode oid) slots = set_slots path mode oid slots
slots_after (Remove path) slots = remove_slots path slots
slots_after Clear slots = []

abbrev pub has_path : Edit → Bool
has_path (Set path mode oid) = is_path path
has_path (Remove path) = is_path path
has_path Clear = true

-- ---- the entries of a directory before its edits

abbrev pub slot_of : EntryKind → EntrySlot
slot_of (kind.File mode oid) = File mode oid
slot_of (kind.Directory number) = Directory (Some number) []

abbrev pub slots_of : List Entry → List (List ℕ × EntrySlot)
slots_of entries = map {A = Entry} {B = List ℕ × EntrySlot} (λ entry. (entry.key, slot_of entry.kind)) entries

-- the keys ascend
abbrev pub are_in_order : List Entry → Bool
are_in_order [] = true
are_in_order (entry ∷ entries) = list_all (λ other. is_lt (slice_cmp nat_cmp entry.key other.key)) entries && are_in_order entries

-- ---- the files that the entries stand for

abbrev pub base_files : List Files → Option ℕ → Files
base_files trees None = []
base_files trees (Some number) = files_at trees number

-- the files of each directory in a tree, or in an empty directory, of those inside first
abbrev pub base_directories : List Files → Option ℕ → List Files
base_directories trees base = or_none (where_some directories (base_files trees base))

-- the files of a tree, or of an empty directory, after edits
abbrev pub edited_base : List Files → Option ℕ → List Edit → Files
edited_base trees base edits = edited (base_files trees base) edits

abbrev pub slot_files : List Files → List ℕ → EntrySlot → Files
slot_files trees key (File mode oid) = record { path = name_in key ∷ []; mode = mode; oid = oid } ∷ []
slot_files trees key (Directory base pending) = beneath (name_in key) (edited_base trees base pending)

abbrev pub contents : List Files → List (List ℕ × EntrySlot) → Listing
contents trees slots = map {A = List ℕ × EntrySlot} {B = List ℕ × Files} (λ slot. (slot.0, slot_files trees slot.0 slot.1)) slots

-- the files of each directory in an entry, of those inside first
abbrev pub slot_directories : List Files → EntrySlot → List Files
slot_directories trees (File mode oid) = []
slot_directories trees (Directory base pending) = or_none (where_some directories (edited_base trees base pending))

-- ---- how deep the edits go

abbrev pub edit_length : Edit → ℕ
edit_length (Set path mode oid) = suc (length path)
edit_length (Remove path) = suc (length path)
edit_length Clear = 1

-- one more than the most components of their paths
abbrev pub longest : List Edit → ℕ
longest [] = 0
longest (edit ∷ edits) = max (edit_length edit) (longest edits)

-- a number of a tree, or none
abbrev pub is_base : ℕ → Option ℕ → Bool
is_base count None = true
is_base count (Some number) = nat_lt number count

abbrev pub is_based : ℕ → EntrySlot → Bool
is_based count (File mode oid) = true
is_based count (Directory base pending) = is_base count base

-- an entry whose tree is there, whose edits have paths, and go less deep than a bound
abbrev pub is_slot : ℕ → ℕ → EntrySlot → Bool
is_slot count bound (File mode oid) = true
is_slot count bound (Directory base pending) = is_base count base && (list_all has_path pending && nat_lt (longest pending) bound)
