-- A whole stream: which commands it is, and how it ends.
use Rattle.std.specs.Prelude.{◌≡◌, ℕ, List, [], ◌∷◌, Option, Some, None, Ok, Err}
use Rattle.bf_grammar.specs.declared.command.Command.{Command}
use Rattle.bf_grammar.specs.declared.fault.Limits.{Limits}
use Rattle.bf_grammar.specs.declared.fault.StreamFault.{StreamFault}
use Rattle.bf_grammar.specs.Place.{Place, start_of}
use Rattle.bf_grammar.specs.Commands.{command_at}

-- From a place on, the stream has these commands and then ends: with no refusal, or with the first one.
abbrev pub Continues : Limits → Place → List Command → Option StreamFault → Type 0
Continues limits p [] None = (q : Place) × (command_at limits p ≡ Ok (None, q))
Continues limits p [] (Some fault) = command_at limits p ≡ Err fault
Continues limits p (command ∷ commands) end =
    (q : Place) × (command_at limits p ≡ Ok (Some command, q)) × Continues limits q commands end

-- The bytes are these commands, and end so.
abbrev pub IsStream : List ℕ → Limits → List Command → Option StreamFault → Type 0
IsStream bytes limits commands end = Continues limits (start_of limits.stream bytes) commands end
