-- A shelf in memory, and what its calls are to do.
use Rattle.std.specs.Prelude.{ℕ, Bool, List}
use Rattle.bf_io.specs.Causes.{raised}
use Rattle.bf_io.specs.Scripted.{is_among}
use Rattle.bf_io.specs.declared.shelf.ShelfFile.{ShelfFile}

pub record ScriptedShelf : Type 0 where
  pub files : List ShelfFile
  pub fails : List ℕ  -- the numbers of the loads that fail, counted from 1
  pub calls : ℕ  -- the loads so far
  pub faults : ℕ  -- the loads so far that failed

-- a shelf with these files and these loads that fail, after so many loads and faults
abbrev pub scripted_shelf : List ShelfFile → List ℕ → ℕ → ℕ → ScriptedShelf
scripted_shelf files fails calls faults = record { files = files; fails = fails; calls = calls; faults = faults }

-- whether the next load fails
abbrev pub fails_next : ScriptedShelf → Bool
fails_next shelf = is_among shelf.fails (raised shelf.calls)

-- the shelf after a load that did not fail
abbrev pub after_load : ScriptedShelf → ScriptedShelf
after_load shelf = record shelf { calls = raised shelf.calls }

-- the shelf after a load that failed
abbrev pub after_fault : ScriptedShelf → ScriptedShelf
after_fault shelf = record shelf { calls = raised shelf.calls; faults = raised shelf.faults }
