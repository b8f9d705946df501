-- The entries of a directory by their keys. The key of a file is its name, and that of a directory its name with
-- a slash behind it, so entries in order of their keys are in git's order.
use Rattle.std.specs.Prelude.{ℕ, Bool, true, ◌==◌, ◌&&◌, not, List, [], ◌∷◌, ◌++◌, map, if◌then◌else◌}
use Rattle.std.specs.Ordering.{nat_cmp, is_lt}
use Rattle.std.specs.Cmp.Lexicographic.{slice_cmp}
use Rattle.std.specs.List.{list_all, flat_map}
use Rattle.bf_paths.specs.Components.{is_component, is_path}
use Rattle.bf_forest.specs.declared.entries.FileEntry.{FileEntry}
use Rattle.bf_forest.specs.Files.{Files, is_same, is_tree}

-- the key of the entry that a path leads to or through
abbrev pub key_for : List (List ℕ) → List ℕ
key_for [] = []
key_for (first ∷ []) = first
key_for (first ∷ next ∷ rest) = first ++ 47 ∷ []

-- the name in a key
abbrev pub name_in : List ℕ → List ℕ
name_in [] = []
name_in (byte ∷ []) = if byte == 47 then [] else byte ∷ []
name_in (byte ∷ next ∷ rest) = byte ∷ name_in (next ∷ rest)

-- entries by their keys, each with the files that it stands for
abbrev pub Listing : Type 0
Listing = List (List ℕ × Files)

-- the files of an entry have paths through it, and are in order
abbrev pub is_entry : List ℕ → Files → Bool
is_entry key files = is_component (name_in key) && (list_all (λ file. is_same (key_for file.path) key && is_path file.path) files && is_tree files)

-- a key comes before another, and is that of another name
abbrev pub stands_before : List ℕ → List ℕ → Bool
stands_before key other = is_lt (slice_cmp nat_cmp key other) && not (is_same (name_in key) (name_in other))

-- the entries of one directory: each comes before all that follow it, and no two have one name
unfoldable pub is_listing : Listing → Bool
is_listing [] = true
is_listing (entry ∷ entries) = is_entry entry.0 entry.1 && (list_all (λ other. stands_before entry.0 other.0) entries && is_listing entries)

-- all the files of a directory
abbrev pub shown : Listing → Files
shown entries = flat_map (λ entry. entry.1) entries

-- files as they are seen from outside of the directory with a name
abbrev pub beneath : List ℕ → Files → Files
beneath name files = map {A = FileEntry} {B = FileEntry} (λ file. record file { path = name ∷ file.path }) files
