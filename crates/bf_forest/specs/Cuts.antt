-- What is left of an edit in a directory on its path.
use Rattle.std.specs.Prelude.{◌≡◌, ℕ, List, [], drop, IsTrue}
use Rattle.bf_forest.specs.declared.edits.Edit.{Edit}
use Rattle.bf_forest.specs.declared.edits.Edit.TheVariants.{Set, Remove, Clear}
use Rattle.bf_forest.specs.Slots.{has_path}

-- the path of an edit
abbrev pub path_in : Edit → List (List ℕ)
path_in (Set path mode oid) = path
path_in (Remove path) = path
path_in Clear = []

-- an edit at another path
abbrev pub with_path : Edit → List (List ℕ) → Edit
with_path (Set path mode oid) other = Set other mode oid
with_path (Remove path) other = Remove other
with_path Clear other = Clear

-- an edit as the first directory on its path sees it
abbrev pub inside : Edit → Edit
inside edit = with_path edit (drop 1 (path_in edit))

-- these components may be what is left of the path of an edit
abbrev pub IsCut : Edit → List (List ℕ) → Type 0
IsCut edit path = IsTrue (has_path (with_path edit path)) × (path_in (with_path edit path) ≡ path)
