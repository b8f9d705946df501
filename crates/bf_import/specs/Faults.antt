-- The faults of an import.
use Rattle.std.specs.Prelude.{Some, None}
use Rattle.bf_grammar.specs.declared.fault.Limit.TheVariants.{Commits, Entries}
use Rattle.bf_grammar.specs.declared.fault.StreamFault.{StreamFault}
use Rattle.bf_grammar.specs.declared.fault.StreamFault.TheVariants as stream
use Rattle.bf_history.specs.declared.fault.ImportFault.{ImportFault}
use Rattle.bf_history.specs.declared.fault.ImportFault.TheVariants as faults
use Rattle.bf_history.specs.Keeping.{Kept}

-- the refusals of a stream are handed on; want of memory is the import's own
abbrev pub refusal_of_stream : StreamFault → ImportFault
refusal_of_stream stream.NoMemory = faults.NoMemory
refusal_of_stream fault = faults.Stream fault

-- The refusals of meanings. That of a commit that lacks its name is one of syntax. Of the limits, those on commits and on
-- entries alone; no content is missed.
abbrev pub IsOfMeaning : ImportFault → Type 0
IsOfMeaning (faults.Stream (stream.Syntax line)) = Unit {0}
IsOfMeaning (faults.Stream fault) = ⊥
IsOfMeaning (faults.NoContent line) = ⊥
IsOfMeaning (faults.TooLarge Commits) = Unit {0}
IsOfMeaning (faults.TooLarge Entries) = Unit {0}
IsOfMeaning (faults.TooLarge other) = ⊥
IsOfMeaning other = Unit {0}

-- the same where contents are kept, and may be missed
abbrev pub IsOfFurnishing : ImportFault → Type 0
IsOfFurnishing (faults.NoContent line) = Unit {0}
IsOfFurnishing fault = IsOfMeaning fault

abbrev pub IsRefusal : Kept → ImportFault → Type 0
IsRefusal None fault = IsOfMeaning fault
IsRefusal (Some blobs) fault = IsOfFurnishing fault

-- what an import may answer, whatever its source tells: want of memory stands in no refusal of the stream
abbrev pub IsImportFault : ImportFault → Type 0
IsImportFault (faults.Stream stream.NoMemory) = ⊥
IsImportFault (faults.Stream fault) = Unit {0}
IsImportFault fault = IsOfMeaning fault

-- the same of an import with blobs
abbrev pub IsFurnishingFault : ImportFault → Type 0
IsFurnishingFault (faults.NoContent line) = Unit {0}
IsFurnishingFault fault = IsImportFault fault

abbrev pub IsFaultOf : Kept → ImportFault → Type 0
IsFaultOf None fault = IsImportFault fault
IsFaultOf (Some blobs) fault = IsFurnishingFault fault

-- both keep contents, or both let them go
abbrev pub IsSameKind : Kept → Kept → Type 0
IsSameKind None None = Unit {0}
IsSameKind (Some blobs) (Some others) = Unit {0}
IsSameKind None (Some blobs) = ⊥
IsSameKind (Some blobs) None = ⊥
