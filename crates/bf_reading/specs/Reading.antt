-- Reading a log (git-bisect(1), "Bisect log and bisect replay"): its lines, the command lines among them, and their words.
use Rattle.std.specs.Prelude.{ℕ, ◌+◌, ◌==◌, ◌||◌, Bool, true, false, if◌then◌else◌, List, [], ◌∷◌, ◌++◌, map, codes, Option, Some, None, Result, Ok, Err}
use Rattle.std.specs.Cmp.Lexicographic.{pointwise}
use Rattle.bf_reading.specs.declared.line.LogLine.{LogLine}
use Rattle.bf_reading.specs.declared.line.LogWord.{LogWord}
use Rattle.bf_reading.specs.declared.line.LogWord.TheVariants.{Start, MarkWord}
use Rattle.bf_reading.specs.declared.start.StartLine.{StartLine}
use Rattle.bf_reading.specs.declared.start.Wants.{Wants}
use Rattle.bf_reading.specs.declared.start.Wants.TheVariants.{AnyWord, NewTerm, OldTerm, NoWord}

-- a byte that stands for itself behind a backslash
abbrev pub is_escaped : ℕ → Bool
is_escaped b = (b == 39) || (b == 33)

-- SP and TAB
abbrev pub is_blank : ℕ → Bool
is_blank b = (b == 32) || (b == 9)

-- ---- the lines of a text, without their LF; the last one may end without it

abbrev pub begin_with : ℕ → List (List ℕ) → List (List ℕ)
begin_with b [] = (b ∷ []) ∷ []
begin_with b (line ∷ lines) = (b ∷ line) ∷ lines

abbrev pub add_byte : ℕ → List (List ℕ) → List (List ℕ)
add_byte b lines = if b == 10 then [] ∷ lines else begin_with b lines

unfoldable pub lines_of : List ℕ → List (List ℕ)
lines_of [] = []
lines_of (b ∷ bs) = add_byte b (lines_of bs)

-- ---- the command lines

unfoldable pub past_blanks : List ℕ → List ℕ
past_blanks [] = []
past_blanks (b ∷ bs) = if is_blank b then past_blanks bs else b ∷ bs

-- what stands behind this text
unfoldable pub behind : List ℕ → List ℕ → Option (List ℕ)
behind [] bytes = Some bytes
behind (c ∷ cs) [] = None
behind (c ∷ cs) (b ∷ bs) = if c == b then behind cs bs else None

abbrev pub behind_blank : Option (List ℕ) → Option (List ℕ)
behind_blank None = None
behind_blank (Some []) = None
behind_blank (Some (b ∷ bs)) = if is_blank b then Some bs else None

abbrev pub or_else : Option (List ℕ) → Option (List ℕ) → Option (List ℕ)
or_else (Some x) other = Some x
or_else None other = other

-- what stands behind one of two texts
abbrev pub behind_either : List ℕ → List ℕ → List ℕ → Option (List ℕ)
behind_either one other bytes = or_else (behind one bytes) (behind other bytes)

-- what stands behind the front of a command line; any other line has none
unfoldable pub command_text : List ℕ → Option (List ℕ)
command_text line = behind_blank (behind_either (codes "git bisect") (codes "git-bisect") (past_blanks line))

-- ---- words

-- outside quotes, between them, or behind a backslash outside of them
pub data Mode : Type 0 where
  Plain : Mode
  Quoted : Mode
  Escaped : Mode

-- the words that have ended, and the one that has begun
pub record Words : Type 0 where
  pub done : List (List ℕ)
  pub word : Option (List ℕ)
  pub mode : Mode

abbrev pub no_words : Words
no_words = record { done = []; word = None; mode = Plain }

abbrev pub begun_word : Option (List ℕ) → List ℕ
begun_word None = []
begun_word (Some word) = word

abbrev pub end_word : List (List ℕ) → Option (List ℕ) → List (List ℕ)
end_word done None = done
end_word done (Some word) = done ++ word ∷ []

abbrev pub with_byte : Words → ℕ → Words
with_byte ws b = record { done = ws.done; word = Some (begun_word ws.word ++ b ∷ []); mode = ws.mode }

abbrev pub in_mode : Words → Mode → Words
in_mode ws mode = record { done = ws.done; word = Some (begun_word ws.word); mode = mode }

-- outside of quotes a blank ends a word, a quote opens a part, and a backslash may stand for the next byte
abbrev pub take_plain : Words → ℕ → Words
take_plain ws b =
    if is_blank b then record { done = end_word ws.done ws.word; word = None; mode = Plain }
    else if b == 39 then in_mode ws Quoted
    else if b == 92 then in_mode ws Escaped
    else with_byte ws b

-- behind a backslash a quote or `!` stands for itself; before any other byte the backslash is one itself
abbrev pub take_byte : Mode → Words → ℕ → Words
take_byte Plain ws b = take_plain ws b
take_byte Quoted ws b = if b == 39 then in_mode ws Plain else with_byte ws b
take_byte Escaped ws b = if is_escaped b then in_mode (with_byte ws b) Plain else take_plain (in_mode (with_byte ws 92) Plain) b

unfoldable pub take_bytes : Words → List ℕ → Words
take_bytes ws [] = ws
take_bytes ws (b ∷ bs) = take_bytes (take_byte ws.mode ws b) bs

-- the words, unless a quote is open
abbrev pub words_at_end : Mode → Words → Option (List (List ℕ))
words_at_end Plain ws = Some (end_word ws.done ws.word)
words_at_end Quoted ws = None
words_at_end Escaped ws = Some (ws.done ++ (begun_word ws.word ++ 92 ∷ []) ∷ [])

abbrev pub told_words : Words → Option (List (List ℕ))
told_words ws = words_at_end ws.mode ws

unfoldable pub words_of : List ℕ → Option (List (List ℕ))
words_of text = told_words (take_bytes no_words text)

-- ---- command lines

abbrev pub is_word : List ℕ → List ℕ → Bool
is_word word text = pointwise ◌==◌ text word

abbrev pub first_is_dash : List ℕ → Bool
first_is_dash [] = false
first_is_dash (b ∷ bs) = b == 45

abbrev pub nothing_started : StartLine
nothing_started = record { first_parent = false; new_term = None; old_term = None; revs = []; wants = AnyWord }

-- an option of a start; a term stands in the same word, behind `=`, or in the next one
abbrev pub with_new : StartLine → List ℕ → StartLine
with_new s term = record s { new_term = Some term; wants = AnyWord }

abbrev pub with_old : StartLine → List ℕ → StartLine
with_old s term = record s { old_term = Some term; wants = AnyWord }

abbrev pub take_value : StartLine → Option (List ℕ) → Option (List ℕ) → Option StartLine
take_value s (Some new) old = Some (with_new s new)
take_value s None (Some old) = Some (with_old s old)
take_value s None None = None

abbrev pub value_taken : StartLine → List ℕ → Option StartLine
value_taken s w = take_value s (behind_either (codes "--term-new=") (codes "--term-bad=") w) (behind_either (codes "--term-old=") (codes "--term-good=") w)

abbrev pub take_option : StartLine → List ℕ → Option StartLine
take_option s w =
    if is_word (codes "--first-parent") w then Some (record s { first_parent = true })
    else if is_word (codes "--no-checkout") w then Some s
    else if is_word (codes "--") w then Some (record s { wants = NoWord })
    else if is_word (codes "--term-new") w || is_word (codes "--term-bad") w then Some (record s { wants = NewTerm })
    else if is_word (codes "--term-old") w || is_word (codes "--term-good") w then Some (record s { wants = OldTerm })
    else value_taken s w

-- the next word of a start: an option or a name, or the value of the option before it; behind `--` there is none
abbrev pub take_word : Wants → StartLine → List ℕ → Option StartLine
take_word AnyWord s w = if first_is_dash w then take_option s w else Some (record s { revs = s.revs ++ w ∷ [] })
take_word NewTerm s w = Some (with_new s w)
take_word OldTerm s w = Some (with_old s w)
take_word NoWord s w = None

abbrev pub and_then : {X Y : Type 0} → Option X → (X → Option Y) → Option Y
and_then None go = None
and_then (Some x) go = go x

-- the end of a start, where no option waits for its value
abbrev pub end_start : Wants → StartLine → Option LogWord
end_start AnyWord s = Some (Start s.first_parent s.new_term s.old_term s.revs)
end_start NoWord s = Some (Start s.first_parent s.new_term s.old_term s.revs)
end_start NewTerm s = None
end_start OldTerm s = None

unfoldable pub read_start : StartLine → List (List ℕ) → Option LogWord
read_start s [] = end_start s.wants s
read_start s (w ∷ ws) = and_then (take_word s.wants s w) (λ next. read_start next ws)

-- a mark has one name
abbrev pub read_mark : List ℕ → List (List ℕ) → Option LogWord
read_mark term (rev ∷ []) = if first_is_dash term || first_is_dash rev then None else Some (MarkWord term rev)
read_mark term other = None

unfoldable pub read_words : List (List ℕ) → Option LogWord
read_words [] = None
read_words (w ∷ ws) = if is_word (codes "start") w then read_start nothing_started ws else read_mark w ws

-- ---- lines

-- a line is passed over, or is a command line, in a form or in none
pub data Line : Type 0 where
  PassedOver : Line
  Command : LogWord → Line
  NoForm : Line

abbrev pub line_of_word : Option LogWord → Line
line_of_word None = NoForm
line_of_word (Some word) = Command word

abbrev pub line_of_text : Option (List ℕ) → Line
line_of_text None = PassedOver
line_of_text (Some text) = line_of_word (and_then (words_of text) read_words)

abbrev pub read_line : List ℕ → Line
read_line line = line_of_text (command_text line)

abbrev pub add_line : ℕ → Line → Result (List LogLine) ℕ → Result (List LogLine) ℕ
add_line n PassedOver rest = rest
add_line n NoForm rest = Err n
add_line n (Command word) (Err line) = Err line
add_line n (Command word) (Ok lines) = Ok (record { line = n; word = word } ∷ lines)

unfoldable pub read_lines : ℕ → List (List ℕ) → Result (List LogLine) ℕ
read_lines n [] = Ok []
read_lines n (line ∷ lines) = add_line n (read_line line) (read_lines (n + 1) lines)

-- the command lines of a text, or the number of the first one that is in no form
abbrev pub read_log : List ℕ → Result (List LogLine) ℕ
read_log text = read_lines 1 (lines_of text)

-- what the command lines say, without their numbers
abbrev pub said : Result (List LogLine) ℕ → Option (List LogWord)
said (Err line) = None
said (Ok lines) = Some (map (λ (l : LogLine). l.word) lines)
