-- The lines of a log, read one after the other.
use Rattle.std.proofs.Common.{◌≡◌, ℕ, ◌+◌, ◌==◌, false, List, [], ◌∷◌, ◌++◌, length, Result, Ok, Err, refl, sym, ap, ◌∙◌, append_assoc, append-nil}
use Rattle.std.proofs.lemmas.Bool.{cond-false, or_parts}
use Rattle.std.specs.List.{list_any}
use Rattle.bf_reading.specs.Answers.{IsLogRefusal, IsNumberedRefusal}
use Rattle.bf_reading.specs.declared.line.LogFault.{LogFault}
use Rattle.bf_reading.specs.declared.line.LogFault.TheVariants as log_fault
use Rattle.bf_reading.specs.declared.line.LogLine.{LogLine}
use Rattle.bf_reading.specs.declared.line.LogWord.{LogWord}
use Rattle.bf_reading.specs.Reading.{add_byte, lines_of, Line, PassedOver, Command, read_line, add_line, read_lines}

-- lines in front of those that are read
abbrev pub behind_lines : List LogLine → Result (List LogLine) ℕ → Result (List LogLine) ℕ
behind_lines front (Err line) = Err line
behind_lines front (Ok back) = Ok (front ++ back)

-- ---- the first line of a text

pub line_in_front : (line rest : List ℕ) → list_any (λ b. b == 10) line ≡ false → lines_of (line ++ 10 ∷ rest) ≡ line ∷ lines_of rest
unfolding lines_of
line_in_front [] rest h = refl
line_in_front (b ∷ bs) rest h =
    let parts = or_parts (b == 10) (list_any (λ b. b == 10) bs) h in
    ap (λ (ls : List (List ℕ)). add_byte b ls) (line_in_front bs rest parts.1)
    ∙ cond-false (b == 10) ([] ∷ bs ∷ lines_of rest) ((b ∷ bs) ∷ lines_of rest) parts.0

last_line : (b : ℕ) (bs : List ℕ) → list_any (λ b. b == 10) (b ∷ bs) ≡ false → lines_of (b ∷ bs) ≡ (b ∷ bs) ∷ []
unfolding lines_of
last_line b [] h =
    let parts = or_parts (b == 10) false h in
    cond-false (b == 10) ([] ∷ []) ((b ∷ []) ∷ []) parts.0
last_line b (c ∷ cs) h =
    let parts = or_parts (b == 10) (list_any (λ x. x == 10) (c ∷ cs)) h in
    ap (λ (ls : List (List ℕ)). add_byte b ls) (last_line c cs parts.1)
    ∙ cond-false (b == 10) ([] ∷ (c ∷ cs) ∷ []) ((b ∷ c ∷ cs) ∷ []) parts.0

pub only_line : (text : List ℕ) → (length text == 0) ≡ false → list_any (λ b. b == 10) text ≡ false → lines_of text ≡ text ∷ lines_of []
unfolding lines_of
only_line [] some h = cc
only_line (b ∷ bs) some h = last_line b bs h

-- ---- the command lines so far

pub behind_none : (read : Result (List LogLine) ℕ) → behind_lines [] read ≡ read
behind_none (Err line) = refl
behind_none (Ok lines) = refl

behind_passed : (front : List LogLine) (n : ℕ) (read : Result (List LogLine) ℕ) → behind_lines front (add_line n PassedOver read) ≡ behind_lines front read
behind_passed front n read = refl

behind_command : (front : List LogLine) (n : ℕ) (word : LogWord) (read : Result (List LogLine) ℕ)
    → behind_lines front (add_line n (Command word) read) ≡ behind_lines (front ++ record { line = n; word = word } ∷ []) read
behind_command front n word (Err line) = refl
behind_command front n word (Ok lines) = ap (λ (ls : List LogLine). Ok ls) (sym (append_assoc front (record { line = n; word = word } ∷ []) lines))

-- a line that is passed over
pub line_passed : (front : List LogLine) (n : ℕ) (line : List ℕ) (lines : List (List ℕ)) → read_line line ≡ PassedOver
    → behind_lines front (read_lines n (line ∷ lines)) ≡ behind_lines front (read_lines (n + 1) lines)
unfolding read_lines
line_passed front n line lines h = ap (λ (l : Line). behind_lines front (add_line n l (read_lines (n + 1) lines))) h

-- a command line
pub line_read : (front lines_now : List LogLine) (n : ℕ) (line : List ℕ) (lines : List (List ℕ)) (command : LogLine) → read_line line ≡ Command command.word
    → command.line ≡ n → lines_now ≡ front ++ command ∷ []
    → behind_lines front (read_lines n (line ∷ lines)) ≡ behind_lines lines_now (read_lines (n + 1) lines)
unfolding read_lines
line_read front lines_now n line lines command h same is =
    ap (λ (l : Line). behind_lines front (add_line n l (read_lines (n + 1) lines))) h
    ∙ behind_command front n command.word (read_lines (n + 1) lines)
    ∙ ap (λ (m : ℕ). behind_lines (front ++ record { line = m; word = command.word } ∷ []) (read_lines (n + 1) lines)) (sym same)
    ∙ ap (λ (ls : List LogLine). behind_lines ls (read_lines (n + 1) lines)) (sym is)

-- a command line in no form
pub line_refused : (fault : LogFault) (front : List LogLine) (n : ℕ) (line : List ℕ) (lines : List (List ℕ)) → IsNumberedRefusal n fault (read_line line)
    → IsLogRefusal fault (behind_lines front (read_lines n (line ∷ lines)))
unfolding read_lines
line_refused log_fault.NoMemory front n line lines h = tt
line_refused (log_fault.Line m) front n line lines h =
    ap (λ (l : Line). behind_lines front (add_line n l (read_lines (n + 1) lines))) h.1 ∙ ap (λ (k : ℕ). Err k) (sym h.0)

-- all lines are read
pub all_read : (front : List LogLine) (n : ℕ) → behind_lines front (read_lines n (lines_of [])) ≡ Ok front
unfolding read_lines lines_of
all_read front n = ap (λ (ls : List LogLine). Ok ls) (append-nil front)
