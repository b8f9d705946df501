-- The places that a report names.
use Rattle.std.specs.Prelude.{ℕ, List, length, All}
use Rattle.bf_farm.specs.declared.report.Report.{Report}
use Rattle.bf_search.specs.Within.{IsEntryWithin, IsEndingWithin}

-- the entries of a report name places of a graph
abbrev pub HasEntriesWithin : List (List ℕ) → Report → Type 0
HasEntriesWithin graph report = All (IsEntryWithin (length graph)) report.entries.items

-- so does its ending
abbrev pub HasEndingWithin : List (List ℕ) → Report → Type 0
HasEndingWithin graph report = IsEndingWithin (length graph) report.ending
