-- A cursor over a stream: where a reading through it stands, and what a call of it gives. What a source has left,
-- and its count of faults, are handed on: `left` and `faults`.
use Rattle.std.specs.Prelude.{◌≡◌, ℕ, ◌≤◌, ◌<◌, Bool, List, drop, length, Option, Result, Ok}
use Rattle.std.specs.Option.{IfSome, option_map}
use Rattle.bf_io.specs.Causes.{FailsOnlyAt}
use Rattle.bf_grammar.specs.declared.fault.Limits.{Limits}
use Rattle.bf_grammar.specs.declared.fault.StreamFault.{StreamFault}
use Rattle.bf_grammar.specs.declared.fault.StreamFault.TheVariants.{Read}
use Rattle.bf_grammar.specs.Place.{Place, Reading, Gives, start_of}
use Rattle.bf_grammar.specs.Lines as lines
use Rattle.bf_grammar.specs.Lines.{front_line}
use Rattle.bf_stream.specs.declared.cursor.Cursor.{Cursor}
use Rattle.bf_stream.specs.Held as held
use Rattle.bf_stream.specs.Held.{beyond_of, past_held_line, place_of, remaining, rest_in}

-- the place where a reading through a cursor stands, where the source tells what it has left
abbrev pub place_at : {S : Type 0} → (S → Option (List ℕ)) → Cursor S → Option Place
place_at left cursor = place_of cursor.window (left cursor.source.now)

-- the bytes behind the limit on the stream, where the source tells what it has left
abbrev pub beyond_at : {S : Type 0} → (S → Option (List ℕ)) → Cursor S → Option (List ℕ)
beyond_at left cursor = beyond_of cursor.window (left cursor.source.now)

-- what was read of the source, and stands behind the line in front
abbrev pub rest_of : {S : Type 0} → Cursor S → List ℕ
rest_of cursor = rest_in cursor.window

-- a byte behind the limit was seen only where no more may be read
abbrev pub IsSpent : {S : Type 0} → Cursor S → Type 0
IsSpent cursor = held.IsSpent cursor.window

-- how often the source failed
abbrev pub faults_at : {S : Type 0} → (S → ℕ) → Cursor S → ℕ
faults_at faults cursor = faults cursor.source.now

-- the number of the line in front, from 1
abbrev pub line_of : {S : Type 0} → Cursor S → ℕ
line_of cursor = cursor.window.line

-- whether `feature done` was read
abbrev pub is_due : {S : Type 0} → Cursor S → Bool
is_due cursor = cursor.window.done_due

abbrev pub limits_of : {S : Type 0} → Cursor S → Limits
limits_of cursor = cursor.limits

-- how many bytes a cursor may still take
abbrev pub left_to_read : {S : Type 0} → Cursor S → ℕ
left_to_read cursor = remaining cursor.window

-- in front of what a source has left, as line 1
abbrev pub start_at : Limits → Option (List ℕ) → Option Place
start_at limits bytes = option_map (start_of limits.stream) bytes

-- at the first line of a source, of which nothing was read yet
pub record Opens {S : Type 0} (left : S → Option (List ℕ)) (faults : S → ℕ) (source : S) (given : Limits) (cursor : Cursor S) : Type 0 where
  pub place : place_at left cursor ≡ start_at given (left source)
  pub beyond : beyond_at left cursor ≡ option_map (drop given.stream) (left source)
  pub count : faults_at faults cursor ≡ faults source
  pub limits : limits_of cursor ≡ given

-- a line is in front, and all of it is held
abbrev pub HasLine : {S : Type 0} → (S → Option (List ℕ)) → Cursor S → Type 0
HasLine left cursor = held.HasLine cursor.window (left cursor.source.now)

-- the line in front is held whole, or there is none
abbrev pub IsWhole : {S : Type 0} → (S → Option (List ℕ)) → Cursor S → Type 0
IsWhole left cursor = held.IsWhole cursor.window (left cursor.source.now)

-- the bytes behind the limit on the stream stay
abbrev pub KeepsBeyond : {S : Type 0} → (S → Option (List ℕ)) → Cursor S → Cursor S → Type 0
KeepsBeyond left old new = beyond_at left new ≡ beyond_at left old

-- Between two states of a cursor the bytes that are left to read did not grow, a fault of the source was answered only
-- where the source failed, and the limits and the source are the same.
pub record Advances {S X : Type 0} (faults : S → ℕ) (old new : Cursor S) (result : Result X StreamFault) : Type 0 where
  pub turns : left_to_read new ≤ left_to_read old
  pub cause : FailsOnlyAt Read (faults_at faults old) (faults_at faults new) result
  pub limits : limits_of new ≡ limits_of old
  pub source : new.source.ghost_name ≡ old.source.ghost_name

-- The same, and a call gave what the reading gives.
pub record Reads {S X : Type 0} (left : S → Option (List ℕ)) (faults : S → ℕ) (old new : Cursor S) (result : Result X StreamFault)
    (reading : Limits → Reading X) : Type 0 where
  pub gives : Gives (λ x. x) (place_at left old) (place_at left new) result (reading (limits_of old))
  pub turns : left_to_read new ≤ left_to_read old
  pub cause : FailsOnlyAt Read (faults_at faults old) (faults_at faults new) result
  pub limits : limits_of new ≡ limits_of old
  pub source : new.source.ghost_name ≡ old.source.ghost_name
  pub beyond : KeepsBeyond left old new

-- the line in front has this text
abbrev pub TextIs : {S : Type 0} → (S → Option (List ℕ)) → Cursor S → List ℕ → Type 0
TextIs left cursor text = IfSome (place_at left cursor) (λ p. text ≡ front_line p.rest)

-- the line in front was taken, or all that is held of it, and nothing of the source
pub record GoesBehindLine {S : Type 0} (old new : Cursor S) : Type 0 where
  pub window : new.window ≡ past_held_line old.window
  pub limits : limits_of new ≡ limits_of old
  pub source : new.source ≡ old.source

-- the line in front was taken, which is at least a byte
pub record TakesLine {S : Type 0} (left : S → Option (List ℕ)) (faults : S → ℕ) (old new : Cursor S) : Type 0 where
  pub reads : Reads left faults old new (Ok tt) (λ _. lines.take_line)
  pub takes : left_to_read new < left_to_read old

-- a first word that is held whole with the front of any line, also of one that is too long
abbrev pub IsShortWord : List ℕ → Type 0
IsShortWord word = length word ≤ 14

-- whether a line with this first word stands in front
abbrev pub looks_for : List ℕ → Limits → Reading Bool
looks_for word limits = lines.at_word limits word

-- a line with this first word must stand in front
abbrev pub must_find : List ℕ → Limits → Reading (Unit {0})
must_find word limits = lines.must_be_at limits word

-- the lines up to one that is this delimiter alone, which the line of this number announced
abbrev pub delimited_by : ℕ → List ℕ → Limits → Reading (List ℕ)
delimited_by line delimiter limits = lines.delimited_at limits line delimiter
