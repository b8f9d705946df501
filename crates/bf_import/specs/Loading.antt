-- What is loaded from a place of a stream on.
use Rattle.std.specs.Prelude.{◌≡◌, ℕ, List, [], ◌∷◌, Option, Some, None, Result, Ok, Err}
use Rattle.bf_grammar.specs.declared.command.Command.{Command}
use Rattle.bf_grammar.specs.declared.fault.Limits.{Limits}
use Rattle.bf_grammar.specs.declared.fault.StreamFault.{StreamFault}
use Rattle.bf_grammar.specs.declared.fault.StreamFault.TheVariants as stream
use Rattle.bf_grammar.specs.Place.{Place, start_of}
use Rattle.bf_grammar.specs.Stream.{Continues}
use Rattle.bf_grammar.specs.Forms.{◌>>=◌}
use Rattle.bf_history.specs.declared.fault.ImportFault.{ImportFault}
use Rattle.bf_history.specs.declared.fault.ImportFault.TheVariants as faults
use Rattle.bf_history.specs.Furnished.{IsFurnishedOver}
use Rattle.bf_history.specs.Keeping.{Kept, command_meant, kept_behind}
use Rattle.bf_history.specs.Meanings.{History, Loading, nothing_loaded}
use Rattle.bf_stream.specs.declared.reader.Reader.{Reader}
use Rattle.bf_stream.specs.Standing.{reader_place}
use Rattle.bf_import.specs.Growing.{Importing}

-- a history, and what is kept of its contents
abbrev pub Loaded : Type 0
Loaded = History × Kept

-- after these commands and this end of the stream
unfoldable pub loaded_keeping : Limits → Kept → Loading → List Command → Option StreamFault → Result Loaded ImportFault
loaded_keeping limits kept loading [] None = Ok (loading.history, kept)
loaded_keeping limits kept loading [] (Some fault) = Err (faults.Stream fault)
loaded_keeping limits kept loading (command ∷ commands) end =
    command_meant limits kept loading command >>= λ next. loaded_keeping limits (kept_behind kept command) next commands end

-- from a place of the stream on
abbrev pub LoadsFrom : Limits → Kept → Loading → Place → Result Loaded ImportFault → Type 0
LoadsFrom limits kept loading place result =
    (commands : List Command) × (end : Option StreamFault) × Continues limits place commands end
    × (result ≡ loaded_keeping limits kept loading commands end)

-- the bytes load so, from what is kept before them on
abbrev pub Loads : List ℕ → Limits → Kept → Result Loaded ImportFault → Type 0
Loads bytes limits start result = LoadsFrom limits start (nothing_loaded limits) (start_of limits.stream bytes) result

-- what may be answered where the source tells its bytes; a source that fails and want of memory may come anywhere
abbrev pub MayLoad : Option (List ℕ) → Limits → Kept → Result Loaded ImportFault → Type 0
MayLoad None limits start result = Unit {0}
MayLoad (Some bytes) limits start (Err faults.NoMemory) = Unit {0}
MayLoad (Some bytes) limits start (Err (faults.Stream stream.Read)) = Unit {0}
MayLoad (Some bytes) limits start result = Loads bytes limits start result

-- what loads from here on, with what is loaded and kept so far, loads from the start of these bytes on
abbrev pub LoadsOn : Limits → Kept → Option (List ℕ) → Option Place → Kept → Loading → Type 0
LoadsOn limits start None here kept loading = here ≡ None
LoadsOn limits start (Some bytes) here kept loading =
    (p : Place) × (here ≡ Some p) × ((result : Result Loaded ImportFault) → LoadsFrom limits kept loading p result → Loads bytes limits start result)

-- what an import came to
abbrev pub ended : Result (Unit {0}) ImportFault → Importing → Kept → Result Loaded ImportFault
ended (Ok done) after kept = Ok (after.loading.history, kept)
ended (Err fault) after kept = Err fault

abbrev pub loaded_by : {C : Type 0} → (C → Kept) → Result (Importing × C × List ℕ) ImportFault → Result Loaded ImportFault
loaded_by kept (Ok (importer, contents, rest)) = Ok (importer.loading.history, kept contents)
loaded_by kept (Err fault) = Err fault

-- from where a reader stood, an import came to its end as the bytes load that it had begun with
abbrev pub LoadsRest : {S : Type 0} → (S → Option (List ℕ)) → Reader S → Importing → Kept → Result Loaded ImportFault → Type 0
LoadsRest left reader before kept answer =
    (start : Kept) (bytes : Option (List ℕ)) → LoadsOn before.limits start bytes (reader_place left reader) kept before.loading
    → MayLoad bytes before.limits start answer

-- where contents are kept, files and marks have theirs
abbrev pub IsFurnishedBy : Kept → Loading → Type 0
IsFurnishedBy None loading = Unit {0}
IsFurnishedBy (Some blobs) loading = IsFurnishedOver blobs loading
