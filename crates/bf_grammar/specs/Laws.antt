-- What the laws of the definition of a stream say.
use Rattle.std.specs.Prelude.{◌≡◌, ◌≢◌, ℕ, List, Option, Some, Result, Err}
use Rattle.bf_grammar.specs.declared.command.Command.{Command}
use Rattle.bf_grammar.specs.declared.fault.Limits.{Limits}
use Rattle.bf_grammar.specs.declared.fault.StreamFault.{StreamFault}
use Rattle.bf_grammar.specs.declared.fault.StreamFault.TheVariants as faults
use Rattle.bf_grammar.specs.Stream.{IsStream}

-- the bytes are the stream of at most one list of commands, and end in at most one way
abbrev pub HasOneReading : List ℕ → Limits → Type 0
HasOneReading bytes limits =
    (commands others : List Command) (end other_end : Option StreamFault)
    → IsStream bytes limits commands end → IsStream bytes limits others other_end
    → (commands ≡ others) × (end ≡ other_end)

-- the bytes are the stream of some list of commands, and end in some way
abbrev pub HasSomeReading : List ℕ → Limits → Type 0
HasSomeReading bytes limits =
    (commands : List Command) × (end : Option StreamFault) × IsStream bytes limits commands end

-- a fault that a stream itself has: not one of its source, and not want of memory
abbrev pub IsOfStream : StreamFault → Type 0
IsOfStream fault = (fault ≢ faults.Read) × (fault ≢ faults.NoMemory)

-- what is refused is refused for the stream itself
abbrev pub IsRefusedOfItself : {X : Type 0} → Result X StreamFault → Type 0
IsRefusedOfItself result = (fault : StreamFault) → result ≡ Err fault → IsOfStream fault

-- where a stream ends with a refusal, it is one of the stream itself
abbrev pub EndsOfItself : List ℕ → Limits → Type 0
EndsOfItself bytes limits =
    (commands : List Command) (fault : StreamFault)
    → IsStream bytes limits commands (Some fault) → IsOfStream fault
