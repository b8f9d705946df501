-- The files of a shelf, and what is due of a load.
use Rattle.std.specs.Prelude.{◌≡◌, ℕ, ◌==◌, nat_lt, Bool, List, length, find, Option, Some, None, Result, Ok, Err, if◌then◌else◌}
use Rattle.std.specs.Cmp.Lexicographic.{pointwise}
use Rattle.bf_io.specs.declared.shelf.ShelfFile.{ShelfFile}
use Rattle.bf_io.specs.declared.shelf.LoadFault.{LoadFault}
use Rattle.bf_io.specs.declared.shelf.LoadFault.TheVariants.{Missing, TooLong, Failed, NoMemory}

abbrev pub has_name : List ℕ → ShelfFile → Bool
has_name name file = pointwise ◌==◌ file.name name

-- the first file of this name
abbrev pub file_named : List ShelfFile → List ℕ → Option ShelfFile
file_named files name = find (has_name name) files

-- what a file gives: its bytes, where it has at most so many
abbrev pub whole_file : ℕ → Option ShelfFile → Result (List ℕ) LoadFault
whole_file max None = Err Missing
whole_file max (Some file) = if nat_lt max (length file.bytes) then Err TooLong else Ok file.bytes

-- what is due of a load, where the files are told
abbrev pub loaded : List ShelfFile → List ℕ → ℕ → Result (List ℕ) LoadFault
loaded files name max = whole_file max (file_named files name)

-- a load that met no fault of the shelf and no want of memory
abbrev pub IsAnswered : Result (List ℕ) LoadFault → Type 0
IsAnswered (Ok bytes) = Unit {0}
IsAnswered (Err Missing) = Unit {0}
IsAnswered (Err TooLong) = Unit {0}
IsAnswered (Err Failed) = ⊥
IsAnswered (Err NoMemory) = ⊥

-- a load gives what is due, where the files are told
abbrev pub LoadGives : Option (List ShelfFile) → List ℕ → ℕ → Result (List ℕ) LoadFault → Type 0
LoadGives None name max result = Unit {0}
LoadGives (Some files) name max result = IsAnswered result → result ≡ loaded files name max
