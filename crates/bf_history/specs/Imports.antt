-- What a whole stream loads: the history of all its commands, or its first refusal in the order of the bytes.
use Rattle.std.specs.Prelude.{◌≡◌, ℕ, List, [], ◌∷◌, Option, Some, None, Result, Ok, Err}
use Rattle.bf_grammar.specs.declared.command.Command.{Command}
use Rattle.bf_grammar.specs.declared.fault.Limits.{Limits}
use Rattle.bf_grammar.specs.declared.fault.StreamFault.{StreamFault}
use Rattle.bf_grammar.specs.declared.fault.StreamFault.TheVariants as stream
use Rattle.bf_grammar.specs.Place.{Place, start_of}
use Rattle.bf_grammar.specs.Stream.{Continues}
use Rattle.bf_grammar.specs.Forms.{◌>>=◌}
use Rattle.bf_history.specs.declared.fault.ImportFault.{ImportFault}
use Rattle.bf_history.specs.declared.fault.ImportFault.TheVariants as faults
use Rattle.bf_history.specs.Meanings.{History, Loading, nothing_loaded, after_command}

-- after these commands and this end of the stream
unfoldable pub loaded : Limits → Loading → List Command → Option StreamFault → Result History ImportFault
loaded limits loading [] None = Ok loading.history
loaded limits loading [] (Some fault) = Err (faults.Stream fault)
loaded limits loading (command ∷ commands) end = after_command limits loading command >>= λ next. loaded limits next commands end

-- from a place of the stream on
abbrev pub LoadsFrom : Limits → Loading → Place → Result History ImportFault → Type 0
LoadsFrom limits loading place result =
    (commands : List Command) × (end : Option StreamFault) × Continues limits place commands end × (result ≡ loaded limits loading commands end)

-- the bytes load this history, or are refused so
abbrev pub Loads : List ℕ → Limits → Result History ImportFault → Type 0
Loads bytes limits result = LoadsFrom limits (nothing_loaded limits) (start_of limits.stream bytes) result

-- What an import of the bytes of a source may answer, where the source tells them. A source that fails and want of
-- memory may come anywhere.
abbrev pub MayImport : Option (List ℕ) → Limits → Result History ImportFault → Type 0
MayImport None limits result = Unit {0}
MayImport (Some bytes) limits (Err faults.NoMemory) = Unit {0}
MayImport (Some bytes) limits (Err (faults.Stream stream.Read)) = Unit {0}
MayImport (Some bytes) limits result = Loads bytes limits result

-- A call gave what is meant, or memory ran out.
abbrev pub Means : {X Y : Type 0} → (X → Y) → Result X ImportFault → Result Y ImportFault → Type 0
Means view (Ok x) meant = meant ≡ Ok (view x)
Means view (Err faults.NoMemory) meant = Unit {0}
Means view (Err fault) meant = meant ≡ Err fault
