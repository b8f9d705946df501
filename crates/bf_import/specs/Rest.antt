-- What stands behind a stream.
use Rattle.std.specs.Prelude.{◌≡◌, ℕ, ◌+◌, List, [], ◌∷◌, ◌++◌, length, drop, Option, Some, None, Result, Ok, Err}
use Rattle.bf_grammar.specs.declared.command.Command.{Command}
use Rattle.bf_grammar.specs.declared.fault.Limits.{Limits}
use Rattle.bf_grammar.specs.Place.{Place, start_of}
use Rattle.bf_grammar.specs.Lines.{front_line}
use Rattle.bf_grammar.specs.Commands.{command_at}
use Rattle.bf_history.specs.declared.fault.ImportFault.{ImportFault}
use Rattle.bf_history.specs.Meanings.{History}
use Rattle.bf_stream.specs.declared.reader.Reader.{Reader}
use Rattle.bf_stream.specs.Standing.{IsWhole, beyond_at, reader_place}

-- From a place on, the stream has these commands, and ends with no refusal. It ends in front of the other place: there
-- stands its line `done`, or no byte.
abbrev pub StopsAt : Limits → Place → List Command → Place → Type 0
StopsAt limits p [] q = command_at limits p ≡ Ok (None, q)
StopsAt limits p (command ∷ commands) q = (r : Place) × (command_at limits p ≡ Ok (Some command, r)) × StopsAt limits r commands q

-- the bytes behind the line in front of a place, and those behind the limit on the stream
abbrev pub behind_line : Place → List ℕ → List ℕ
behind_line q beyond = drop (length (front_line q.rest) + 1) q.rest ++ beyond

-- these are what stands behind the stream that the bytes begin with
abbrev pub AreBehind : List ℕ → Limits → List ℕ → Type 0
AreBehind bytes limits behind =
    (commands : List Command) × (q : Place) × StopsAt limits (start_of limits.stream bytes) commands q
    × (behind ≡ behind_line q (drop limits.stream bytes))

-- What was read behind a stream, and what its source has left then, where the source tells its bytes: one behind the other
-- they are what stands behind the stream.
abbrev pub Leaves : Option (List ℕ) → Limits → List ℕ → Option (List ℕ) → Type 0
Leaves None limits rest left = Unit {0}
Leaves (Some bytes) limits rest None = ⊥
Leaves (Some bytes) limits rest (Some left) = AreBehind bytes limits (rest ++ left)

-- the history alone
abbrev pub history_of : Result (History × List ℕ) ImportFault → Result History ImportFault
history_of (Ok (history, rest)) = Ok history
history_of (Err fault) = Err fault

-- ---- steps

-- from here on some commands come, and then the end of the stream, in front of the other place
abbrev pub Ends : Limits → Option Place → Option Place → Type 0
Ends limits None there = there ≡ None
Ends limits (Some p) there = (commands : List Command) × (q : Place) × StopsAt limits p commands q × (there ≡ Some q)

-- where a stream ends that goes on from here, there it ends from the start on
abbrev pub Leads : Limits → Option Place → Option Place → Type 0
Leads limits start here = (there : Option Place) → Ends limits here there → Ends limits start there

-- a reader read to the end of its stream
pub record ReadsOut {S : Type 0} (left : S → Option (List ℕ)) (limits : Limits) (old new : Reader S) : Type 0 where
  pub ends : Ends limits (reader_place left old) (reader_place left new)
  pub whole : IsWhole left new
  pub beyond : beyond_at left new ≡ beyond_at left old
