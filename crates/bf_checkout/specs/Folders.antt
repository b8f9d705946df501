-- What a folder tells of its files: all of them, in the order in which they were put, or nothing.
use Rattle.std.specs.Prelude.{◌≡◌, ℕ, List, [], ◌∷◌, ◌++◌, codes, Option, Some, None, IsTrue}
use Rattle.std.specs.Fmt.{decimal}
use Rattle.std.specs.List.{list_all}
use Rattle.std.specs.Option.{option_map}
use Rattle.bf_forest.specs.Files.{are_apart}
use Rattle.bf_tester.specs.Grounds.{File}

-- after all files were removed
abbrev pub emptied : Option (List File) → Option (List File)
emptied told = option_map (λ _. []) told

abbrev pub file_with : List (List ℕ) → List ℕ → File
file_with path bytes = record { path = path; bytes = bytes }

-- after a file was put
abbrev pub with_file : Option (List File) → List (List ℕ) → List ℕ → Option (List File)
with_file told path bytes = option_map (λ files. files ++ file_with path bytes ∷ []) told

-- a file may stand at the path beside those that are there: no path is another one, nor leads to it
abbrev pub HasRoomAt : Option (List File) → List (List ℕ) → Type 0
HasRoomAt None path = Unit {0}
HasRoomAt (Some files) path = IsTrue (list_all (λ file. are_apart file.path path) files)

-- where the folder tells its files, they are these
abbrev pub Holds : Option (List File) → List File → Type 0
Holds None files = Unit {0}
Holds (Some held) files = held ≡ files

-- a text has the name of a folder more at its end: where the folder does not tell it, something more
abbrev pub AddsName : Option (List ℕ) → List ℕ → List ℕ → Type 0
AddsName None old new = (more : List ℕ) × (new ≡ old ++ more)
AddsName (Some name) old new = new ≡ old ++ name

-- the name of the folder of the system with a number
abbrev pub name_of : ℕ → List ℕ
name_of number = codes "bisect-trees/" ++ decimal number
