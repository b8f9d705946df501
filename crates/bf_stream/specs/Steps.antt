-- What the private steps of a cursor give.
use Rattle.std.specs.Prelude.{◌≡◌, ◌<◌, ℕ, Bool, List, Option, None, Result, IfOk}
use Rattle.bf_grammar.specs.declared.fault.StreamFault.{StreamFault}
use Rattle.bf_grammar.specs.declared.fault.Limits.{Limits}
use Rattle.bf_grammar.specs.Place.{Reading, Gives}
use Rattle.bf_stream.specs.declared.cursor.Cursor.{Cursor}
use Rattle.bf_stream.specs.declared.front.Ahead.{Ahead}
use Rattle.bf_stream.specs.Cursor.{place_at, limits_of, left_to_read}
use Rattle.bf_stream.specs.Data as parts
use Rattle.bf_stream.specs.Data.{content_line, past_delimiter}
use Rattle.bf_stream.specs.Fronts as fronts

-- what stands in front was found
abbrev pub FindsFront : {S : Type 0} → (S → Option (List ℕ)) → Cursor S → Cursor S → Result Ahead StreamFault → Type 0
FindsFront left old new result = fronts.FindsFront (limits_of old) (place_at left old) new.window (left new.source.now) result

-- what stands behind the lines that are passed over was found
abbrev pub FindsNext : {S : Type 0} → Bool → (S → Option (List ℕ)) → Cursor S → Cursor S → Result Ahead StreamFault → Type 0
FindsNext empty_too left old new result = fronts.FindsNext empty_too (limits_of old) (place_at left old) new.window (left new.source.now) result

-- the line in front was passed over, or what stands there is what is looked for
abbrev pub PassesLine : {S : Type 0} → Bool → (S → Option (List ℕ)) → Cursor S → Cursor S → Result (Option Ahead) StreamFault → Type 0
PassesLine empty_too left old new result = fronts.Steps empty_too (limits_of old) (place_at left old) new.window (left new.source.now) result

-- a line that was passed over is at least a byte
abbrev pub PassesBytes : {S : Type 0} → Cursor S → Cursor S → Result (Option Ahead) StreamFault → Type 0
PassesBytes old new result = IfOk result (λ found. found ≡ None → left_to_read new < left_to_read old)

-- of so many bytes, which the line of this number announced, a piece was taken behind the bytes so far
abbrev pub TakesPiece : {S : Type 0} → (S → Option (List ℕ)) → ℕ → ℕ → Cursor S → Cursor S → List ℕ → List ℕ → Result ℕ StreamFault → Type 0
TakesPiece left line n old new bytes more result = parts.TakesPiece line bytes more n (place_at left old) (place_at left new) result

-- behind the line in front, where it ends delimited data
abbrev pub delimiter_at : List ℕ → Limits → Reading Bool
delimiter_at delimiter _ = past_delimiter delimiter

-- a piece of the line in front was taken behind the content so far
abbrev pub TakesContent : {S : Type 0} → (S → Option (List ℕ)) → ℕ → Cursor S → Cursor S → List ℕ → List ℕ → Result Bool StreamFault → Type 0
TakesContent left line old new content more result = parts.TakesContent (limits_of old) line content more (place_at left old) (place_at left new) result

-- the line in front was taken behind the content so far
abbrev pub TakesWholeLine : {S : Type 0} → (S → Option (List ℕ)) → ℕ → Cursor S → Cursor S → List ℕ → List ℕ → Result (Unit {0}) StreamFault
    → Type 0
TakesWholeLine left line old new content more result =
    Gives (λ _. more) (place_at left old) (place_at left new) result (content_line (limits_of old) line content)
