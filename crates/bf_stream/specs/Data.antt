-- Data parts that are read piece by piece.
use Rattle.std.specs.Prelude.{ℕ, ◌+◌, ◌&&◌, ◌||◌, not, nat_lt, Bool, true, false, List}
use Rattle.std.specs.Prelude.{◌++◌, length, take, Option, Result, Ok, Err, if◌then◌else◌}
use Rattle.bf_grammar.specs.declared.fault.Limit.TheVariants.{Data, Stream}
use Rattle.bf_grammar.specs.declared.fault.Limits.{Limits}
use Rattle.bf_grammar.specs.declared.fault.StreamFault.{StreamFault}
use Rattle.bf_grammar.specs.declared.fault.StreamFault.TheVariants.{Truncated, TooLarge}
use Rattle.bf_grammar.specs.Place.{Place, Reading, Gives, pure, ◌>>=◌}
use Rattle.bf_grammar.specs.Lines.{front_line, has_end_of_line, is_text, past_line, bytes_at}
use Rattle.bf_stream.specs.Going.{GoesOnAs}

-- the bytes that were taken, and so many more
abbrev pub bytes_from : ℕ → List ℕ → ℕ → Reading (List ℕ)
bytes_from line taken n = bytes_at line n >>= λ more. pure (taken ++ more)

-- a piece was taken of so many bytes, and so many are left
abbrev pub TakesPiece : ℕ → List ℕ → List ℕ → ℕ → Option Place → Option Place → Result ℕ StreamFault → Type 0
TakesPiece line old new n before after (Ok left) = GoesOnAs (bytes_from line old n) (bytes_from line new left) before after
TakesPiece line old new n before after (Err fault) = Gives (λ (bytes : List ℕ). bytes) before after (Err fault) (bytes_from line old n)

-- behind the line in front, where it ends delimited data
abbrev pub past_delimiter : List ℕ → Reading Bool
past_delimiter delimiter p =
    if is_text delimiter (front_line p.rest) && (has_end_of_line p.rest || not p.more) then Ok (true, past_line p)
    else Ok (false, p)

-- the line in front, with its LF, behind the content so far
abbrev pub content_line : Limits → ℕ → List ℕ → Reading (List ℕ)
content_line limits line content p =
    if nat_lt limits.part (length content + length (take (length (front_line p.rest) + 1) p.rest)) then Err (TooLarge Data)
    else if has_end_of_line p.rest then Ok (content ++ take (length (front_line p.rest) + 1) p.rest, past_line p)
    else if p.more then Err (TooLarge Stream)
    else Err (Truncated line)

-- a piece of the line in front was taken, or all of it
abbrev pub TakesContent : Limits → ℕ → List ℕ → List ℕ → Option Place → Option Place → Result Bool StreamFault → Type 0
TakesContent limits line old new before after (Ok true) = Gives (λ (content : List ℕ). content) before after (Ok new) (content_line limits line old)
TakesContent limits line old new before after (Ok false) = GoesOnAs (content_line limits line old) (content_line limits line new) before after
TakesContent limits line old new before after (Err fault) = Gives (λ (content : List ℕ). content) before after (Err fault) (content_line limits line old)
