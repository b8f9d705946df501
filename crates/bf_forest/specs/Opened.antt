-- A directory that is being made: what stands in it so far, and what is still to be taken.
use Rattle.std.specs.Prelude.{◌≡◌, ℕ, ◌+◌, ◌*◌, ◌<◌, ◌≤◌, true, List, [], ◌∷◌, ◌++◌, length, take, fold, Option, Some, None}
use Rattle.std.specs.List.{list_all, filter, flat_map}
use Rattle.bf_forest.specs.declared.edits.Edit.{Edit}
use Rattle.bf_forest.specs.declared.nodes.Entry.{Entry}
use Rattle.bf_forest.specs.declared.nodes.EntryKind.TheVariants as kind
use Rattle.bf_forest.specs.declared.opened.OpenDirectory.{OpenDirectory}
use Rattle.bf_forest.specs.declared.slots.EntrySlot.{EntrySlot}
use Rattle.bf_forest.specs.declared.slots.EntrySlot.TheVariants.{File, Directory}
use Rattle.bf_forest.specs.Files.{Files}
use Rattle.bf_forest.specs.Listing.{is_listing, shown}
use Rattle.bf_forest.specs.Nodes.{listed, files_in, is_filled, is_node, is_earlier, stood, are_within, World, IsSound, directory_files}
use Rattle.bf_forest.specs.Overlays.{is_below}
use Rattle.bf_forest.specs.Rests.{IsOld, slots_in, slots_with}
use Rattle.bf_forest.specs.Slots.{contents, base_files, slot_directories, edit_length, is_based, is_slot}
use Rattle.bf_forest.specs.Trees.{with_tree, with_directories, files_at}

-- slots that stand for files, by the trees that are there
abbrev pub IsOpened : List Files → Files → List (List ℕ × EntrySlot) → Type 0
IsOpened trees files slots =
    IsSound trees
    × (is_listing (contents trees slots) ≡ true)
    × (shown (contents trees slots) ≡ files)
    × ((bound : ℕ) × (list_all (λ slot. is_slot (length trees) bound slot.1) slots ≡ true))

-- an opened directory is to have these files
abbrev pub Opens : World → Files → OpenDirectory → Type 0
Opens world files top = IsOpened world.trees files (slots_in world.table top.rest)

-- the slots that are left make of the trees and entries so far what all of them make
abbrev pub IsSettling : List Files → List (List ℕ × EntrySlot) → List Files → List Entry → List (List ℕ × EntrySlot) → Type 0
IsSettling trees slots now entries rest =
    (take (length trees) now ≡ trees)
    × (fold with_tree now (flat_map (λ slot. slot_directories trees slot.1) rest)
    ≡ fold with_tree trees (flat_map (λ slot. slot_directories trees slot.1) slots))
    × (listed now entries ++ filter is_filled (contents trees rest) ≡ filter is_filled (contents trees slots))
    × (list_all (is_earlier (length now)) entries ≡ true)
    × (list_all (λ slot. is_based (length trees) slot.1) rest ≡ true)

-- the entries of a directory with files, whose directories have joined the trees
abbrev pub IsMade : List Files → List Files → Files → List Entry → Type 0
IsMade trees next files entries =
    (files_in next entries ≡ files) × (is_node next entries ≡ true) × (with_tree next (files_in next entries) ≡ with_directories trees files)

-- the numbers stand for such entries
abbrev pub Makes : World → World → Files → List ℕ → Type 0
Makes before after files numbers = IsMade before.trees after.trees files (stood after.table numbers)

-- ---- what is still to be done

-- twice the components that edits lead through
abbrev pub weight : List Edit → ℕ
weight [] = 0
weight (edit ∷ edits) = 2 * edit_length edit + weight edits

abbrev pub slot_heft : EntrySlot → ℕ
slot_heft (File mode oid) = 0
slot_heft (Directory base pending) = weight pending

abbrev pub heft : List (List ℕ × EntrySlot) → ℕ
heft [] = 0
heft (slot ∷ slots) = slot_heft slot.1 + heft slots

-- how much is left to be done in an opened directory
abbrev pub heft_left : World → OpenDirectory → ℕ
heft_left world top = heft (slots_in world.table top.rest)

-- how much is left to be done in an opened directory and for a change
abbrev pub heft_with : World → OpenDirectory → List ℕ → Option EntrySlot → ℕ
heft_with world top key change = heft (slots_with world.table top.rest key change)

-- what is left of edits weighs less than they do, by two for each of them
abbrev pub IsLighter : World → List Edit → OpenDirectory → Type 0
IsLighter world edits top = heft_left world top + 2 * length edits ≤ weight edits

-- ---- what is known of a directory that is being made

-- numbers of old entries: each is there, they are in order, and no directory among them is empty
abbrev pub IsBase : List Files → List Entry → List ℕ → Type 0
IsBase trees table numbers = IsOld table numbers × (list_all is_filled (listed trees (stood table numbers)) ≡ true)

-- the numbers of the entries of a tree, or of an empty directory
abbrev pub HasBaseFiles : World → Option ℕ → List ℕ → Type 0
HasBaseFiles world base numbers = directory_files world numbers ≡ base_files world.trees base

abbrev pub IsFrame : World → OpenDirectory → Type 0
IsFrame world top =
    IsBase world.trees world.table top.rest.base
    × (are_within (length world.table) top.numbers ≡ true)
    × (list_all (λ slot. is_based (length world.trees) slot.1) (slots_in world.table top.rest) ≡ true)

-- what is known where a change is to be taken
abbrev pub IsTurn : World → OpenDirectory → List ℕ → Option EntrySlot → Type 0
IsTurn world top key change =
    IsBase world.trees world.table top.rest.base
    × (are_within (length world.table) top.numbers ≡ true)
    × (is_below key top.rest.changes.entries ≡ true)
    × (list_all (λ slot. is_based (length world.trees) slot.1) (slots_with world.table top.rest key change) ≡ true)

-- ---- what calls answer

-- entries with one more, for a directory with files
abbrev pub with_directory : List Entry → List ℕ → Option ℕ → List Entry
with_directory entries key None = entries
with_directory entries key (Some number) = entries ++ record { key = key; kind = kind.Directory number } ∷ []

-- a directory is added to the entries of another one, if it has files
abbrev pub EntersDirectory : World → List ℕ → List ℕ → Option ℕ → World → List ℕ → Type 0
EntersDirectory before old key number after new = stood after.table new ≡ with_directory (stood before.table old) key number

-- a directory goes on behind the one in it that was made, which is an entry of it now, if it has files
abbrev pub Resumes : World → OpenDirectory → Option ℕ → World → OpenDirectory → Type 0
Resumes before old number after new = EntersDirectory before old.numbers old.inside number after new.numbers

-- what a directory is made of lies in front of what is left
abbrev pub slots_before : Option (Option ℕ × List Edit) → List ℕ → List (List ℕ × EntrySlot) → List (List ℕ × EntrySlot)
slots_before None key slots = slots
slots_before (Some (base, pending)) key slots = (key, Directory base pending) ∷ slots

-- all is taken up to a directory that is to be made first, if there is one
abbrev pub Advances : World → World → OpenDirectory → OpenDirectory → Option (Option ℕ × List Edit) → Type 0
Advances before after old top inner =
    (trees : List Files) (slots : List (List ℕ × EntrySlot))
    → IsSettling trees slots before.trees (stood before.table old.numbers) (slots_in before.table old.rest)
    → IsSettling trees slots after.trees (stood after.table top.numbers) (slots_before inner top.inside (slots_in after.table top.rest))

-- a change is taken
abbrev pub Turns : World → World → OpenDirectory → List ℕ → Option EntrySlot → OpenDirectory → Option (Option ℕ × List Edit) → Type 0
Turns before after old key change top inner =
    (trees : List Files) (slots : List (List ℕ × EntrySlot))
    → IsSettling trees slots before.trees (stood before.table old.numbers) (slots_with before.table old.rest key change)
    → IsSettling trees slots after.trees (stood after.table top.numbers) (slots_before inner top.inside (slots_in after.table top.rest))

-- nothing is left where there is no directory to be made
abbrev pub IsSpent : List (List ℕ × EntrySlot) → Option (Option ℕ × List Edit) → Type 0
IsSpent slots None = slots ≡ []
IsSpent slots (Some inner) = Unit {0}

-- what a directory is made of has such a weight, and there is some of it
abbrev pub inner_weight : Option (Option ℕ × List Edit) → ℕ
inner_weight None = 0
inner_weight (Some (base, pending)) = weight pending

abbrev pub HasSome : Option (Option ℕ × List Edit) → Type 0
HasSome None = Unit {0}
HasSome (Some (base, pending)) = 0 < length pending

-- what is left of a directory, with the one in it that is made first, is at most so much
abbrev pub LeavesAtMost : ℕ → World → OpenDirectory → Option (Option ℕ × List Edit) → Type 0
LeavesAtMost most world top inner = inner_weight inner + heft_left world top ≤ most

-- a directory without entries is not there, and another one stands among the trees
abbrev pub IsClosed : List Files → List Files → List Entry → Option ℕ → Type 0
IsClosed trees next entries None = (entries ≡ []) × (next ≡ trees)
IsClosed trees next entries (Some number) =
    (entries ≡ [] → ⊥) × (next ≡ with_tree trees (files_in trees entries)) × (number < length next) × (files_at next number ≡ files_in trees entries)

-- the same of a directory by the numbers of its entries
abbrev pub Closes : World → World → List ℕ → Option ℕ → Type 0
Closes before after numbers number = IsClosed before.trees after.trees (stood before.table numbers) number
