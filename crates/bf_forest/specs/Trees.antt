-- The directories of a list of files, and the names of its trees (git's format of a tree).
use Rattle.std.specs.Prelude.{ℕ, zero, suc, max, Bool, ◌&&◌, List, [], ◌∷◌, ◌++◌, length, fold, codes, Option, Some, None, if◌then◌else◌}
use Rattle.std.specs.Cmp.Lexicographic.{pointwise}
use Rattle.std.specs.List.{filter_map, flat_map, list_any, sum_by, slice_index_or}
use Rattle.std.specs.Option.{option_map}
use Rattle.bf_oid.specs.Object.{name_of}
use Rattle.bf_oid.specs.declared.object.Kind.TheVariants.{Tree}
use Rattle.bf_oid.specs.declared.object.Mode.{Mode}
use Rattle.bf_oid.specs.declared.object.Mode.TheVariants.{Plain, Exec, Link, Module}
use Rattle.bf_forest.specs.declared.entries.FileEntry.{FileEntry}
use Rattle.bf_forest.specs.declared.edits.Edit.{Edit}
use Rattle.bf_forest.specs.Files.{Files, is_same, edited}

-- ---- the entries of a directory

-- the first components, each once, in order
abbrev pub add_first : List (List ℕ) → List (List ℕ) → List (List ℕ)
add_first names [] = names
add_first names (first ∷ rest) = if list_any (λ name. is_same name first) names then names else names ++ first ∷ []

abbrev pub add_name : List (List ℕ) → FileEntry → List (List ℕ)
add_name names file = add_first names file.path

unfoldable pub names : Files → List (List ℕ)
names files = fold add_name [] files

-- what stands of a path below a name, where the name is a directory on it
abbrev pub path_below : List ℕ → List (List ℕ) → Option (List (List ℕ))
path_below name [] = None
path_below name (first ∷ []) = None
path_below name (first ∷ next ∷ rest) = if is_same first name then Some (next ∷ rest) else None

abbrev pub file_below : List ℕ → FileEntry → Option FileEntry
file_below name file = option_map (λ path. record file { path = path }) (path_below name file.path)

-- the files of the directory with a name, none where there is no such directory
unfoldable pub below : List ℕ → Files → Files
below name files = filter_map (file_below name) files

-- ---- what a rule makes of a list of files, given what it makes of each directory in it

-- the most components of a path
abbrev pub depth : Files → ℕ
depth [] = 0
depth (file ∷ files) = max (length file.path) (depth files)

abbrev pub where_some : {X : Type 0} → (Files → X) → Files → Option X
where_some make [] = None
where_some make (file ∷ files) = Some (make (file ∷ files))

abbrev pub made_within : {X : Type 0} → (Files → (List ℕ → Option X) → X) → ℕ → Files → X
made_within rule zero files = rule files (λ _. None)
made_within rule (suc turns) files = rule files (λ name. where_some (made_within rule turns) (below name files))

abbrev pub made : {X : Type 0} → (Files → (List ℕ → Option X) → X) → Files → X
made rule files = made_within rule (depth files) files

-- ---- the name of a tree

abbrev pub mode_text : Mode → List ℕ
mode_text Plain = codes "100644"
mode_text Exec = codes "100755"
mode_text Link = codes "120000"
mode_text Module = codes "160000"

abbrev pub entry_bytes : List ℕ → List ℕ → List ℕ → List ℕ
entry_bytes mode name oid = mode ++ 32 ∷ name ++ 0 ∷ oid

-- the entry of the file with a name, where that is the one component of its path
abbrev pub is_named : List ℕ → List (List ℕ) → Bool
is_named name path = pointwise is_same path (name ∷ [])

abbrev pub file_bytes : List ℕ → FileEntry → List ℕ
file_bytes name file = if is_named name file.path then entry_bytes (mode_text file.mode) name file.oid.0 else []

-- The entry with a name: a directory, of which the name of its tree is given, or a file.
abbrev pub entry_with : Files → List ℕ → Option (List ℕ) → List ℕ
entry_with files name (Some tree) = entry_bytes (codes "40000") name tree
entry_with files name None = flat_map (file_bytes name) files

-- The files are in order of the bytes of their paths, so the entries are in git's order: that of their names,
-- where a directory counts as if its name ended with a slash.
abbrev pub name_by : Files → (List ℕ → Option (List ℕ)) → List ℕ
name_by files tree = name_of Tree (flat_map (λ name. entry_with files name (tree name)) (names files))

unfoldable pub tree_name : Files → List ℕ
tree_name files = made name_by files

-- ---- the pool of trees

abbrev pub or_none : Option (List Files) → List Files
or_none None = []
or_none (Some lists) = lists

-- the files of each directory: of those inside first, and all the files last
abbrev pub directories_by : Files → (List ℕ → Option (List Files)) → List Files
directories_by files inside = flat_map (λ name. or_none (inside name)) (names files) ++ files ∷ []

unfoldable pub directories : Files → List Files
directories files = made directories_by files

-- two lists have the same files
abbrev pub is_same_file : FileEntry → FileEntry → Bool
is_same_file a b = pointwise is_same a.path b.path && is_same (mode_text a.mode) (mode_text b.mode) && is_same a.oid.0 b.oid.0

abbrev pub are_same : Files → Files → Bool
are_same a b = pointwise is_same_file a b

-- trees with one more, where it is not among them
abbrev pub with_tree : List Files → Files → List Files
with_tree trees files = if list_any (λ tree. are_same tree files) trees then trees else trees ++ files ∷ []

-- trees with those of all directories of these files
unfoldable pub with_directories : List Files → Files → List Files
with_directories trees files = fold with_tree trees (directories files)

-- the entries of all trees together
unfoldable pub entries_of : List Files → ℕ
entries_of trees = sum_by (λ files. length (names files)) trees

-- trees by their numbers, and the most entries that they may have together
pub record Pool : Type 0 where
  pub trees : List Files
  pub limit : ℕ

-- the files of the tree with a number
abbrev pub files_at : List Files → ℕ → Files
files_at trees number = slice_index_or trees number []

-- the files of a tree after edits
abbrev pub edited_tree : List Files → ℕ → List Edit → Files
edited_tree trees tree edits = edited (files_at trees tree) edits

-- trees with those of a tree after edits
abbrev pub trees_after : List Files → ℕ → List Edit → List Files
trees_after trees tree edits = with_directories trees (edited_tree trees tree edits)
