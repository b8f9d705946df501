-- How the answers of the parts of a reader are those of the definition.
use Rattle.std.specs.Prelude.{◌≡◌, ℕ, ◌==◌, ◌||◌, Bool, false, not, List, [], ◌∷◌, Option, Some, None, Result, Err, IfErr}
use Rattle.std.specs.Borrow.{Bor}
use Rattle.bf_reading.specs.declared.line.LogFault.{LogFault}
use Rattle.bf_reading.specs.declared.line.LogFault.TheVariants as log_fault
use Rattle.bf_reading.specs.declared.line.LineFault.{LineFault}
use Rattle.bf_reading.specs.declared.line.LineFault.TheVariants as line_fault
use Rattle.bf_reading.specs.declared.line.LogLine.{LogLine}
use Rattle.bf_reading.specs.declared.line.LogWord.{LogWord}
use Rattle.bf_reading.specs.declared.start.StartLine.{StartLine}
use Rattle.bf_reading.specs.Reading.{is_blank, Plain, Quoted, take_bytes, told_words, words_of, lines_of, and_then, nothing_started, take_word, read_start, read_mark, read_words, Line, PassedOver, Command, NoForm}

-- the first command line in no form, or want of memory, of which nothing is said
abbrev pub IsLogRefusal : LogFault → Result (List LogLine) ℕ → Type 0
IsLogRefusal (log_fault.Line line) read = read ≡ Err line
IsLogRefusal log_fault.NoMemory read = Unit {0}

-- a part in no form, or want of memory, of which nothing is said
abbrev pub IsRefusal : {X : Type 0} → LineFault → Option X → Type 0
IsRefusal line_fault.NoForm read = read ≡ None
IsRefusal line_fault.NoMemory read = Unit {0}

-- a call that reads a part: where it fails, the part is in no form, or memory was wanting
abbrev pub Refuses : {X Y : Type 0} → Result Y LineFault → Option X → Type 0
Refuses result read = IfErr result (λ fault. IsRefusal fault read)

-- what the words of a text say as a command line, behind `start`, and behind the word of a mark
abbrev pub command_in : List ℕ → Option LogWord
command_in text = and_then (words_of text) read_words

abbrev pub start_in : List ℕ → Option LogWord
start_in text = and_then (words_of text) (read_start nothing_started)

abbrev pub mark_in : List ℕ → List ℕ → Option LogWord
mark_in term text = and_then (words_of text) (read_mark term)

-- a start line with one word more
abbrev pub after_word : StartLine → List ℕ → Option StartLine
after_word start word = take_word start.wants start word

-- the words of a text that begins inside of a word, or between quotes
unfoldable pub words_inside : List ℕ → List ℕ → Option (List (List ℕ))
words_inside word text = told_words (take_bytes (record { done = []; word = Some word; mode = Plain }) text)

unfoldable pub words_quoted : List ℕ → List ℕ → Option (List (List ℕ))
words_quoted word text = told_words (take_bytes (record { done = []; word = Some word; mode = Quoted }) text)

-- the words of a text that begins behind a backslash inside of a word
abbrev pub words_escaped : List ℕ → List ℕ → Option (List (List ℕ))
words_escaped word text = words_inside word (92 ∷ text)

-- these are the words that are read on from here: inside of this word, and from this rest of the text
abbrev pub AreReadOn : Option (List (List ℕ)) → List ℕ → Bor (List ℕ) → Type 0
AreReadOn words word rest = words ≡ words_inside word rest.now

-- a word and those behind it
abbrev pub with_word : List ℕ → Option (List (List ℕ)) → Option (List (List ℕ))
with_word word None = None
with_word word (Some words) = Some (word ∷ words)

-- these are the words of a text whose first one has ended, and those of the rest of the text
abbrev pub AreReadBehind : Option (List (List ℕ)) → List ℕ → Bor (List ℕ) → Type 0
AreReadBehind words word rest = words ≡ with_word word (words_of rest.now)

-- whether a word stands in front of a text
abbrev pub begins_word : List ℕ → Bool
begins_word [] = false
begins_word (b ∷ bs) = not (is_blank b)

-- what a line without its number is: a command line, or one that is passed over
abbrev pub line_of : Option LogWord → Line
line_of None = PassedOver
line_of (Some word) = Command word

-- a command line in no form, or want of memory, of which nothing is said
abbrev pub IsLineRefusal : LineFault → Line → Type 0
IsLineRefusal line_fault.NoForm line = line ≡ NoForm
IsLineRefusal line_fault.NoMemory line = Unit {0}

-- a byte that does not stand for itself outside of quotes
abbrev pub is_special : ℕ → Bool
is_special b = is_blank b || (b == 39) || (b == 92)

-- a slice is this part of a text, where there is one
abbrev pub IsPart : Option (List ℕ) → Option (Bor (List ℕ)) → Type 0
IsPart part None = part ≡ None
IsPart part (Some slice) = part ≡ Some slice.now

-- the line that a command line was read from, or one that is passed over
abbrev pub unnumbered : Option LogLine → Line
unnumbered None = PassedOver
unnumbered (Some command) = Command command.word

-- the line of this number in no form, or want of memory, of which nothing is said
abbrev pub IsNumberedRefusal : ℕ → LogFault → Line → Type 0
IsNumberedRefusal n (log_fault.Line line) read = (line ≡ n) × (read ≡ NoForm)
IsNumberedRefusal n log_fault.NoMemory read = Unit {0}

-- a call that reads the line of this number: where it fails, the line is in no form, or memory was wanting
abbrev pub RefusesLine : {X : Type 0} → Result X LogFault → ℕ → Line → Type 0
RefusesLine result line read = IfErr result (λ fault. IsNumberedRefusal line fault read)

-- the first line of a text, without its LF, and what stands behind it
abbrev pub IsFirstLine : List ℕ → List ℕ → List ℕ → Type 0
IsFirstLine text line rest = lines_of text ≡ line ∷ lines_of rest

abbrev pub begins_plain : List ℕ → Bool
begins_plain [] = false
begins_plain (b ∷ bs) = not (is_special b)
