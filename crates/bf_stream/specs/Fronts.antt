-- What is found in front of a window. Of a line that is too long the first bytes are told.
use Rattle.std.specs.Prelude.{◌≡◌, ℕ, Bool, true, false, nat_lt, ◌==◌, List, take, Option, Some, None, Result, Ok, Err, IfOk, if◌then◌else◌}
use Rattle.bf_grammar.specs.declared.fault.Limit.TheVariants.{Line, Stream}
use Rattle.bf_grammar.specs.declared.fault.Limits.{Limits}
use Rattle.bf_grammar.specs.declared.fault.StreamFault.{StreamFault}
use Rattle.bf_grammar.specs.declared.fault.StreamFault.TheVariants.{Syntax, Truncated, TooLarge}
use Rattle.bf_grammar.specs.Place.{Place, Reading, Gives, pure, ◌>>=◌}
use Rattle.bf_grammar.specs.Lines.{Front, Nothing, Whole, Long, front, front_line, has_word, is_passed_over, next_front}
use Rattle.bf_stream.specs.declared.front.Ahead.{Ahead}
use Rattle.bf_stream.specs.declared.front.Ahead.TheVariants as ahead
use Rattle.bf_stream.specs.Going.{GoesOnAs}
use Rattle.bf_stream.specs.Held.{Held, HasLine, place_of}

-- of a line that is too long, the first bytes
abbrev pub cut : Front → Front
cut Nothing = Nothing
cut (Whole text) = Whole text
cut (Long text) = Long (take 16 text)

-- what stands in front of a window
abbrev pub seen : Held → Ahead → Front
seen held ahead.Nothing = Nothing
seen held ahead.Whole = Whole (front_line held.bytes)
seen held ahead.Long = Long (take 16 (front_line held.bytes))

-- a line of this length
abbrev pub sized : ℕ → ℕ → Ahead
sized most size = if nat_lt most size then ahead.Long else ahead.Whole

-- the same for bytes without LF, which are all that is left
abbrev pub ended : ℕ → ℕ → Ahead
ended most size = if size == 0 then ahead.Nothing else sized most size

-- the same for bytes without LF, which are all that may be read of a longer stream
abbrev pub passed : ℕ → ℕ → Result Ahead StreamFault
passed most size = if nat_lt most size then Ok ahead.Long else Err (TooLarge Stream)

-- A reading gave what stands in front of the window. A line is then held whole.
pub record Finds (read : Reading Front) (before : Option Place) (held : Held) (left : Option (List ℕ)) (result : Result Ahead StreamFault) : Type 0 where
  pub gives : Gives (seen held) before (place_of held left) result (read >>= λ found. pure (cut found))
  pub line : IfOk result (λ found. found ≡ ahead.Whole → HasLine held left)

abbrev pub FindsFront : Limits → Option Place → Held → Option (List ℕ) → Result Ahead StreamFault → Type 0
FindsFront limits before held left result = Finds (front limits) before held left result

abbrev pub FindsNext : Bool → Limits → Option Place → Held → Option (List ℕ) → Result Ahead StreamFault → Type 0
FindsNext empty_too limits before held left result = Finds (next_front empty_too limits) before held left result

-- the line in front was passed over, or what stands there is what is looked for
abbrev pub Steps : Bool → Limits → Option Place → Held → Option (List ℕ) → Result (Option Ahead) StreamFault → Type 0
Steps empty_too limits before held left (Ok None) = GoesOnAs (next_front empty_too limits) (next_front empty_too limits) before (place_of held left)
Steps empty_too limits before held left (Ok (Some found)) = FindsNext empty_too limits before held left (Ok found)
Steps empty_too limits before held left (Err fault) = FindsNext empty_too limits before held left (Err fault)

-- ---- what follows from what was found, and the text of its line

-- whether the line is passed over
abbrev pub told_passed : Bool → List ℕ → Ahead → Result Bool StreamFault
told_passed empty_too text ahead.Nothing = Ok false
told_passed empty_too text ahead.Whole = Ok (is_passed_over empty_too text)
told_passed empty_too text ahead.Long = if is_passed_over false text then Err (TooLarge Line) else Ok false

-- whether the line has this first word
abbrev pub told_word : List ℕ → List ℕ → Ahead → Result Bool StreamFault
told_word word text ahead.Nothing = Ok false
told_word word text ahead.Whole = Ok (has_word word text)
told_word word text ahead.Long = if has_word word text then Err (TooLarge Line) else Ok false

-- whether there is a line
abbrev pub told_line : Ahead → Result Bool StreamFault
told_line ahead.Nothing = Ok false
told_line ahead.Whole = Ok true
told_line ahead.Long = Err (TooLarge Line)

-- the refusal in the place of a part that must stand
abbrev pub told_missing : ℕ → Ahead → StreamFault
told_missing line ahead.Nothing = Truncated line
told_missing line ahead.Whole = Syntax line
told_missing line ahead.Long = TooLarge Line
