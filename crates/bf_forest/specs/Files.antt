-- The files of a tree, and what edits make of them (git-fast-import(1), `filemodify`, `filedelete` and
-- `filedeleteall`). A list of files is in order of its paths' bytes.
use Rattle.std.specs.Prelude.{ℕ, Bool, true, ◌==◌, ◌&&◌, not, List, [], ◌∷◌, ◌++◌, filter, fold}
use Rattle.std.specs.Ordering.{nat_cmp, is_lt}
use Rattle.std.specs.Cmp.Lexicographic.{pointwise, slice_cmp}
use Rattle.std.specs.List.{starts_with, list_all}
use Rattle.bf_paths.specs.Components.{path_text}
use Rattle.bf_oid.specs.declared.object.Mode.{Mode}
use Rattle.bf_oid.specs.declared.object.Oid.{Oid}
use Rattle.bf_forest.specs.declared.entries.FileEntry.{FileEntry}
use Rattle.bf_forest.specs.declared.edits.Edit.{Edit}
use Rattle.bf_forest.specs.declared.edits.Edit.TheVariants.{Set, Remove, Clear}
use Rattle.bf_forest.specs.declared.edits.Part.{Part}
use Rattle.bf_forest.specs.declared.edits.Part.TheVariants.{Before, Behind, Outside}

abbrev pub Files : Type 0
Files = List FileEntry

-- two names are the same
abbrev pub is_same : List ℕ → List ℕ → Bool
is_same a b = pointwise ◌==◌ a b

-- a path is another one, or a directory that the other one stands in
abbrev pub leads_to : List (List ℕ) → List (List ℕ) → Bool
leads_to path other = starts_with is_same other path

-- two files may stand in one tree
abbrev pub are_apart : List (List ℕ) → List (List ℕ) → Bool
are_apart a b = not (leads_to a b) && not (leads_to b a)

-- a path comes before another in order of their bytes
abbrev pub is_before : List (List ℕ) → List (List ℕ) → Bool
is_before a b = is_lt (slice_cmp nat_cmp (path_text a) (path_text b))

-- the files that may stand beside a path, before it and behind it, and those outside of the path
abbrev pub is_in_part : Part → List (List ℕ) → FileEntry → Bool
is_in_part Before path file = are_apart file.path path && is_before file.path path
is_in_part Behind path file = are_apart file.path path && is_before path file.path
is_in_part Outside path file = not (leads_to path file.path)

-- the file with a name in the directory that names lead to
abbrev pub file_in : List (List ℕ) → List ℕ → Mode → Oid → FileEntry
file_in names name mode oid = record { path = names ++ name ∷ []; mode = mode; oid = oid }

abbrev pub part_of : Part → List (List ℕ) → Files → Files
part_of part path files = filter (is_in_part part path) files

-- A file takes the place of what stands at its path, a file or a directory, and of a file that stands where it
-- needs a directory.
abbrev pub set_file : List (List ℕ) → Mode → Oid → Files → Files
set_file path mode oid files = part_of Before path files ++ record { path = path; mode = mode; oid = oid } ∷ part_of Behind path files

-- The file at a path goes, or all the files of the directory there.
abbrev pub remove_file : List (List ℕ) → Files → Files
remove_file path files = part_of Outside path files

abbrev pub edited_by : Files → Edit → Files
edited_by files (Set path mode oid) = set_file path mode oid files
edited_by files (Remove path) = remove_file path files
edited_by files Clear = []

-- a file comes before another, and may stand beside it
abbrev pub comes_before : FileEntry → FileEntry → Bool
comes_before file other = is_before file.path other.path && are_apart file.path other.path

-- the files of one tree: each comes before all that follow it, and may stand beside them
unfoldable pub is_tree : Files → Bool
is_tree [] = true
is_tree (file ∷ files) = list_all (comes_before file) files && is_tree files

-- the files after edits, in order
unfoldable pub edited : Files → List Edit → Files
edited files edits = fold edited_by files edits
