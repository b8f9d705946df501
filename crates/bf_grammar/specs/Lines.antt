-- The lines and data parts of a stream (git-fast-import(1)). A line ends with LF, the last one may end without it.
use Rattle.std.specs.Prelude.{ℕ, ◌+◌, Bool, true, false, ◌==◌, ◌&&◌, ◌||◌, not, nat_lt, nat_le, List, [], ◌∷◌, ◌++◌, length, take, codes, Ok, Err}
use Rattle.std.specs.Prelude.{if◌then◌else◌, ◌⊎◌}
use Rattle.std.specs.List.{list_any, starts_with, before_first}
use Rattle.std.proofs.Common.{inl, inr}
use Rattle.bf_grammar.specs.declared.fault.Limit.TheVariants.{Line, Data, Stream}
use Rattle.bf_grammar.specs.declared.fault.Limits.{Limits}
use Rattle.bf_grammar.specs.declared.fault.StreamFault.TheVariants.{Syntax, Truncated, TooLarge}
use Rattle.bf_grammar.specs.Place.{Place, Reading, is_end_of_line, moved, pure, refuse, ◌>>=◌, repeat}

-- the bytes up to the first LF, or all
abbrev pub front_line : List ℕ → List ℕ
front_line bytes = before_first is_end_of_line bytes

abbrev pub has_end_of_line : List ℕ → Bool
has_end_of_line bytes = list_any is_end_of_line bytes

-- a text is that of another list of bytes
abbrev pub is_text : List ℕ → List ℕ → Bool
is_text wanted text = starts_with ◌==◌ text wanted && (length text == length wanted)

-- the first word of a text is this one: the text is the word alone, or the word and SP stand at its front
abbrev pub has_word : List ℕ → List ℕ → Bool
has_word word text = starts_with ◌==◌ text (word ++ codes " ") || is_text word text

-- what stands in front: no byte, a line, or a line that is too long
pub data Front : Type 0 where
  Nothing : Front
  Whole : List ℕ → Front
  Long : List ℕ → Front

abbrev pub text_of : Front → List ℕ
text_of Nothing = []
text_of (Whole text) = text
text_of (Long text) = text

-- the line in front; the place stays where it is
abbrev pub front : Limits → Reading Front
front limits p =
    if nat_lt limits.line (length (front_line p.rest)) then Ok (Long (front_line p.rest), p)
    else if has_end_of_line p.rest then Ok (Whole (front_line p.rest), p)
    else if p.more then Err (TooLarge Stream)
    else if length p.rest == 0 then Ok (Nothing, p)
    else Ok (Whole p.rest, p)

-- behind the line in front
abbrev pub past_line : Place → Place
past_line p = moved (length (front_line p.rest) + 1) p

abbrev pub take_line : Reading (Unit {0})
take_line p = Ok (tt, past_line p)

-- whether a line is passed over: a comment, and where a command may stand also an empty line
abbrev pub is_passed_over : Bool → List ℕ → Bool
is_passed_over empty_too text = starts_with ◌==◌ text (codes "#") || (empty_too && (length text == 0))

abbrev pub past_passed_over : Bool → Limits → Front → Reading (Unit {0} ⊎ Front)
past_passed_over empty_too limits Nothing p = Ok (inr Nothing, p)
past_passed_over empty_too limits (Long text) p = if is_passed_over false text then Err (TooLarge Line) else Ok (inr (Long text), p)
past_passed_over empty_too limits (Whole text) p = if is_passed_over empty_too text then Ok (inl tt, past_line p) else Ok (inr (Whole text), p)

-- the first line that isn't passed over
unfoldable pub next_front : Bool → Limits → Reading Front
next_front empty_too limits = repeat (λ _. front limits >>= past_passed_over empty_too limits) tt

-- whether a line with this first word stands in front. A line of a part that is too long is refused.
abbrev pub is_at : List ℕ → Front → Reading Bool
is_at word Nothing p = Ok (false, p)
is_at word (Whole text) p = Ok (has_word word text, p)
is_at word (Long text) p = if has_word word text then Err (TooLarge Line) else Ok (false, p)

unfoldable pub at_word : Limits → List ℕ → Reading Bool
at_word limits word = next_front false limits >>= is_at word

-- the refusal of what stands in the place of a part that must stand
abbrev pub missing : {X : Type 0} → Front → Reading X
missing Nothing = refuse Truncated
missing (Whole text) = refuse Syntax
missing (Long text) = λ _. Err (TooLarge Line)

-- a line with this first word must stand in front
unfoldable pub must_be_at : Limits → List ℕ → Reading (Unit {0})
must_be_at limits word = at_word limits word >>= λ there. if there then pure tt else (next_front false limits >>= missing)

-- whether a line stands where a command may stand
abbrev pub is_line : Front → Reading Bool
is_line Nothing = pure false
is_line (Whole text) = pure true
is_line (Long text) = λ _. Err (TooLarge Line)

unfoldable pub at_command : Limits → Reading Bool
at_command limits = next_front true limits >>= is_line

-- a reading that is given the number and the text of the line in front
abbrev pub with_line : {X : Type 0} → (ℕ → List ℕ → Reading X) → Reading X
with_line read p = read p.line (front_line p.rest) p

-- one LF directly behind a data part belongs to it
unfoldable pub skip_end_of_line : Reading (Unit {0})
skip_end_of_line p = skip_from p.rest p
  where
    skip_from : List ℕ → Reading (Unit {0})
    skip_from [] p = if p.more then Err (TooLarge Stream) else Ok (tt, p)
    skip_from (byte ∷ _) p = if is_end_of_line byte then Ok (tt, moved 1 p) else Ok (tt, p)

-- so many bytes, which the line of this number announced
unfoldable pub bytes_at : ℕ → ℕ → Reading (List ℕ)
bytes_at line n p =
    if nat_le n (length p.rest) then Ok (take n p.rest, moved n p)
    else if p.more then Err (TooLarge Stream)
    else Err (Truncated line)

-- A line of delimited data. It is the last where it is the delimiter alone. The other lines are content, with
-- their LF, up to the limit on a data part.
abbrev pub delimited_line : Limits → ℕ → List ℕ → List ℕ → Reading (List ℕ ⊎ List ℕ)
delimited_line limits line delimiter content p =
    if is_text delimiter (front_line p.rest) && (has_end_of_line p.rest || not p.more) then Ok (inr content, past_line p)
    else if nat_lt limits.part (length content + length (take (length (front_line p.rest) + 1) p.rest)) then Err (TooLarge Data)
    else if has_end_of_line p.rest then Ok (inl (content ++ take (length (front_line p.rest) + 1) p.rest), past_line p)
    else if p.more then Err (TooLarge Stream)
    else Err (Truncated line)

unfoldable pub delimited_at : Limits → ℕ → List ℕ → Reading (List ℕ)
delimited_at limits line delimiter = repeat (delimited_line limits line delimiter) []
