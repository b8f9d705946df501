-- Trees as entries that name other trees by their numbers: a directory inside is a tree with a smaller number.
use Rattle.std.specs.Prelude.{◌≡◌, ℕ, Bool, true, false, ◌&&◌, nat_lt, ◌<◌, List, [], ◌∷◌, ◌++◌, map, length, take, fold, codes, Option, Some, None, IsTrue}
use Rattle.std.specs.List.{list_all, flat_map, list_any, slice_index_or}
use Rattle.bf_paths.specs.Components.{is_component, is_path}
use Rattle.bf_forest.specs.declared.nodes.EntryKind.{EntryKind}
use Rattle.bf_forest.specs.declared.nodes.EntryKind.TheVariants.{File, Directory}
use Rattle.bf_forest.specs.declared.nodes.Entry.{Entry}
use Rattle.bf_forest.specs.declared.pool.KeptTree.{KeptTree}
use Rattle.bf_oid.specs.declared.object.Oid.{Oid}
use Rattle.bf_forest.specs.Files.{Files, is_tree}
use Rattle.bf_forest.specs.Listing.{name_in, Listing, is_listing, shown, beneath}
use Rattle.bf_forest.specs.Trees.{tree_name, files_at, mode_text, entry_bytes, are_same, with_tree, with_directories}

-- a tree: its entries and its name
pub record Node : Type 0 where
  pub entries : List Entry
  pub name : Oid

-- the files of an entry
abbrev pub kind_files : List Files → List ℕ → EntryKind → Files
kind_files trees key (File mode oid) = record { path = name_in key ∷ []; mode = mode; oid = oid } ∷ []
kind_files trees key (Directory number) = beneath (name_in key) (files_at trees number)

-- the entries, each with its files
abbrev pub listed : List Files → List Entry → Listing
listed trees entries = map {A = Entry} {B = List ℕ × Files} (λ entry. (entry.key, kind_files trees entry.key entry.kind)) entries

-- all the files
abbrev pub files_in : List Files → List Entry → Files
files_in trees entries = shown (listed trees entries)

abbrev pub has_some : Files → Bool
has_some [] = false
has_some (file ∷ files) = true

-- an entry stands for some files
abbrev pub is_filled : List ℕ × Files → Bool
is_filled entry = has_some entry.1

-- the entries of one directory, none of them an empty directory
unfoldable pub is_node : List Files → List Entry → Bool
is_node trees entries = is_listing (listed trees entries) && list_all is_filled (listed trees entries)

abbrev is_before_kind : ℕ → EntryKind → Bool
is_before_kind count (File mode oid) = true
is_before_kind count (Directory number) = nat_lt number count

-- an entry that stands for a file, or for a tree with a smaller number
abbrev pub is_earlier : ℕ → Entry → Bool
is_earlier count entry = is_before_kind count entry.kind

-- such an entry whose key has a name
abbrev pub is_good : ℕ → Entry → Bool
is_good count entry = is_component (name_in entry.key) && is_earlier count entry

-- what an entry adds to the body of its tree
abbrev pub kind_bytes : List Files → List ℕ → EntryKind → List ℕ
kind_bytes trees key (File mode oid) = entry_bytes (mode_text mode) (name_in key) oid.0
kind_bytes trees key (Directory number) = entry_bytes (codes "40000") (name_in key) (tree_name (files_at trees number))

abbrev pub entry_body : List Files → Entry → List ℕ
entry_body trees entry = kind_bytes trees entry.key entry.kind

abbrev pub body_of : List Files → List Entry → List ℕ
body_of trees entries = flat_map (entry_body trees) entries

-- the trees, one after another, each by those before it
abbrev pub trees_from : List Files → List Node → List Files
trees_from trees [] = trees
trees_from trees (node ∷ nodes) = trees_from (trees ++ files_in trees node.entries ∷ []) nodes

-- each is a directory by those before it, and has the name that git gives it
abbrev pub AreNodes : List Files → List Node → Type 0
AreNodes trees [] = Unit {0}
AreNodes trees (node ∷ nodes) =
    (is_node trees node.entries ≡ true) × (node.name.0 ≡ tree_name (files_in trees node.entries))
    × AreNodes (trees ++ files_in trees node.entries ∷ []) nodes

-- each tree has its files in order, with paths
abbrev pub IsSound : List Files → Type 0
IsSound trees = (number : ℕ) → number < length trees
    → (list_all (λ file. is_path file.path) (files_at trees number) ≡ true) × (is_tree (files_at trees number) ≡ true)

-- ---- where a tree stands

-- the number of the tree with some files, if there is one
abbrev pub IsPosition : List Files → Files → Option ℕ → Type 0
IsPosition trees files None = list_any (λ tree. are_same tree files) trees ≡ false
IsPosition trees files (Some number) = (number < length trees) × (files_at trees number ≡ files)

-- the number of the tree with some files, if there are files
abbrev pub IsSettled : List Files → Files → Option ℕ → Type 0
IsSettled trees files None = files ≡ []
IsSettled trees files (Some number) = (number < length trees) × (files_at trees number ≡ files) × (has_some files ≡ true)

-- ---- entries by their numbers

abbrev pub no_entry : Entry
no_entry = record { key = []; kind = Directory 0 }

abbrev pub entry_at : List Entry → ℕ → Entry
entry_at table number = slice_index_or table number no_entry

-- the entries that numbers stand for
abbrev pub stood : List Entry → List ℕ → List Entry
stood table numbers = map (entry_at table) numbers

-- all numbers have an entry
abbrev pub are_within : ℕ → List ℕ → Bool
are_within count numbers = list_all (λ number. nat_lt number count) numbers

abbrev pub node_of : List Entry → KeptTree → Node
node_of table kept = record { entries = stood table kept.numbers; name = kept.name }

abbrev pub nodes_of : List Entry → List KeptTree → List Node
nodes_of table kept = map (node_of table) kept

-- the files of the trees that are kept
abbrev pub kept_trees : List Entry → List KeptTree → List Files
kept_trees table kept = trees_from [] (nodes_of table kept)

-- all numbers of trees have an entry
abbrev pub are_kept_within : ℕ → List KeptTree → Bool
are_kept_within count kept = list_all (λ tree. are_within count tree.numbers) kept

-- the entries of all trees, and the trees
pub record World : Type 0 where
  pub table : List Entry
  pub trees : List Files

-- the entries and the trees that are kept
abbrev pub world_of : List Entry → List KeptTree → World
world_of table kept = record { table = table; trees = kept_trees table kept }

-- entries and trees that are there stay
abbrev pub StaysIn : World → World → Type 0
StaysIn before after = (take (length before.table) after.table ≡ before.table) × (take (length before.trees) after.trees ≡ before.trees)

-- ---- directories by the numbers of their entries

-- each number has an entry
abbrev pub HaveEntries : World → List ℕ → Type 0
HaveEntries world numbers = IsTrue (are_within (length world.table) numbers)

-- the entries are those of one directory, none of them an empty directory
abbrev pub IsDirectory : World → List ℕ → Type 0
IsDirectory world numbers = IsTrue (is_node world.trees (stood world.table numbers))

-- the files of the directory with these entries
abbrev pub directory_files : World → List ℕ → Files
directory_files world numbers = files_in world.trees (stood world.table numbers)

-- the trees with that of the directory with these entries
abbrev pub trees_with : World → List ℕ → List Files
trees_with world numbers = with_tree world.trees (directory_files world numbers)

-- what the entry with a number adds to the body of its tree
abbrev pub numbered_body : World → ℕ → List ℕ
numbered_body world number = entry_body world.trees (entry_at world.table number)

-- whether the tree with a number has these files
abbrev pub has_files : World → ℕ → Files → Bool
has_files world number files = are_same (files_at world.trees number) files

-- the tree with a number holds these files
abbrev pub Holds : List Files → Files → ℕ → Type 0
Holds trees files number = files_at trees number ≡ files

-- the trees of these files are there already
abbrev pub HaveJoined : List Files → List Files → Type 0
HaveJoined trees lists = fold with_tree trees lists ≡ trees

-- the trees of all directories of these files are there already
abbrev pub HasDirectories : List Files → Files → Type 0
HasDirectories trees files = with_directories trees files ≡ trees

-- an entry is added to those of a directory
abbrev pub Enters : World → List ℕ → List ℕ → EntryKind → World → List ℕ → Type 0
Enters before old key kind after new = stood after.table new ≡ stood before.table old ++ record { key = key; kind = kind } ∷ []
