-- Where a reader of commands stands, and what a call of it gives. What a source has left, and its count of faults,
-- are handed on: `left` and `faults`.
use Rattle.std.specs.Prelude.{◌≡◌, ℕ, ◌<◌, Bool, true, false, List, Option, Some, None, Result, Ok, Err, IfOk, OnOk, OnSome, MatchOption}
use Rattle.bf_grammar.specs.declared.command.Command.{Command}
use Rattle.bf_grammar.specs.declared.fault.Limits.{Limits}
use Rattle.bf_grammar.specs.declared.fault.StreamFault.{StreamFault}
use Rattle.bf_grammar.specs.Place.{Place, Reading}
use Rattle.bf_stream.specs.Cursor as cursor
use Rattle.bf_stream.specs.declared.reader.Reader.{Reader}

-- the place where a reader stands, where the source tells what it has left
abbrev pub reader_place : {S : Type 0} → (S → Option (List ℕ)) → Reader S → Option Place
reader_place left reader = cursor.place_at left reader.cursor

-- how often its source failed
abbrev pub reader_faults : {S : Type 0} → (S → ℕ) → Reader S → ℕ
reader_faults faults reader = cursor.faults_at faults reader.cursor

abbrev pub limits_of : {S : Type 0} → Reader S → Limits
limits_of reader = cursor.limits_of reader.cursor

-- how many bytes a reader may still take
abbrev pub left_to_read : {S : Type 0} → Reader S → ℕ
left_to_read reader = cursor.left_to_read reader.cursor

-- the source, and the reference to it
abbrev pub source_at : {S : Type 0} → Reader S → S
source_at reader = reader.cursor.source.now

abbrev pub source_of : {S : Type 0} → Reader S → ℕ
source_of reader = reader.cursor.source.ghost_name

-- the bytes behind the limit on the stream, where the source tells what it has left
abbrev pub beyond_at : {S : Type 0} → (S → Option (List ℕ)) → Reader S → Option (List ℕ)
beyond_at left reader = cursor.beyond_at left reader.cursor

-- what was read of the source, and stands behind the line in front
abbrev pub rest_of : {S : Type 0} → Reader S → List ℕ
rest_of reader = cursor.rest_of reader.cursor

-- a byte behind the limit was seen only where no more may be read
abbrev pub IsSpent : {S : Type 0} → Reader S → Type 0
IsSpent reader = cursor.IsSpent reader.cursor

-- the line in front is held whole, or there is none
abbrev pub IsWhole : {S : Type 0} → (S → Option (List ℕ)) → Reader S → Type 0
IsWhole left reader = cursor.IsWhole left reader.cursor

abbrev pub is_over : {S : Type 0} → Reader S → Bool
is_over reader = reader.over

-- in front of what a source has left, within these limits
abbrev pub Opens : {S : Type 0} → (S → Option (List ℕ)) → (S → ℕ) → S → Limits → Reader S → Type 0
Opens left faults source given reader = cursor.Opens left faults source given reader.cursor

-- Between two states of a reader a call gave what the reading gives, and took no byte twice. It answers a fault of
-- the source only where the source failed, and keeps the limits and the source.
abbrev pub Reads : {S X : Type 0} → (S → Option (List ℕ)) → (S → ℕ) → Reader S → Reader S → Result X StreamFault → (Limits → Reading X) → Type 0
Reads left faults old new result reading = cursor.Reads left faults old.cursor new.cursor result reading

-- a line is in front, and all of it is held
abbrev pub HasLine : {S : Type 0} → (S → Option (List ℕ)) → Reader S → Type 0
HasLine left reader = cursor.HasLine left reader.cursor

-- where there is no command, the line in front is held whole, or there is none
abbrev pub EndsWhole : {S : Type 0} → (S → Option (List ℕ)) → Reader S → Result (Option Command) StreamFault → Type 0
EndsWhole left reader result = IfOk result (λ found. MatchOption found (IsWhole left reader) (λ _. Unit {0}))

-- what was read took at least a byte
abbrev pub Takes : {S X : Type 0} → Reader S → Reader S → Result X StreamFault → Type 0
Takes old new result = OnOk result (left_to_read new < left_to_read old)

-- the same where something was read
abbrev pub TakesIfSome : {S X : Type 0} → Reader S → Reader S → Result (Option X) StreamFault → Type 0
TakesIfSome old new result = IfOk result (λ found. OnSome found (left_to_read new < left_to_read old))

-- a reader is over where it gave no command
abbrev pub IsOverBy : Result (Option Command) StreamFault → Bool → Type 0
IsOverBy (Ok (Some command)) over = over ≡ false
IsOverBy (Ok None) over = over ≡ true
IsOverBy (Err fault) over = over ≡ true
