-- Lines and words, byte by byte.
use Rattle.std.proofs.Common.{◌≡◌, ℕ, zero, suc, ◌+◌, ◌==◌, ◌/◌, ◌%◌, ◌&&◌, not, nat_lt, true, false, List, [], ◌∷◌, ◌++◌, codes, Option, Some, None, Result}
use Rattle.std.proofs.Common.{Ok, Err, refl, sym, ap, ◌∙◌, append_assoc, append-nil, arith, ⊎_elim}
use Rattle.std.proofs.lemmas.Bool.{and_parts, and_from, not-true, cond-false, cond-true, or_from, cases_Bool, ne_eqb}
use Rattle.std.proofs.lemmas.List.Folds.{list_all-append}
use Rattle.std.specs.List.{list_all, flat_map, slice_index}
use Rattle.std.specs.Fmt.{decimal, digits, digits_onto, digit_glyph}
use Rattle.hex.specs.Hex.{encode_with, encode_lower, lower_digits}
use Rattle.bf_terms.specs.Texts.{quoted}
use Rattle.bf_reading.specs.Reading.{is_blank, add_byte, lines_of, Plain, Quoted, Words, no_words, end_word, with_byte, take_plain, take_byte, take_bytes}
use Rattle.bf_reading.specs.Reading.{told_words, words_of, Line, PassedOver, Command, NoForm, read_line, add_line, read_lines, said, first_is_dash}
use Rattle.bf_reading.specs.declared.line.LogWord.{LogWord}
use Rattle.bf_reading.specs.declared.line.LogLine.{LogLine}
use Rattle.bf_log.specs.Written.{is_plain, has_no_end, IsPlainWord}

-- ---- bytes

pub record PlainParts (b : ℕ) : Type 0 where
  pub space : (b == 32) ≡ false
  pub tab : (b == 9) ≡ false
  pub quote : (b == 39) ≡ false
  pub backslash : (b == 92) ≡ false
  pub end : (b == 10) ≡ false

plain_parts : (b : ℕ) → is_plain b ≡ true → PlainParts b
plain_parts b h =
    let one = and_parts (not (b == 32)) (not (b == 9) && (not (b == 39) && (not (b == 92) && not (b == 10)))) h in
    let two = and_parts (not (b == 9)) (not (b == 39) && (not (b == 92) && not (b == 10))) one.1 in
    let three = and_parts (not (b == 39)) (not (b == 92) && not (b == 10)) two.1 in
    let four = and_parts (not (b == 92)) (not (b == 10)) three.1 in
    record {
      space = not-true (b == 32) one.0;
      tab = not-true (b == 9) two.0;
      quote = not-true (b == 39) three.0;
      backslash = not-true (b == 92) four.0;
      end = not-true (b == 10) four.1;
    }

pub no_end_append : (x y : List ℕ) → has_no_end x ≡ true → has_no_end y ≡ true → has_no_end (x ++ y) ≡ true
no_end_append x y h k = list_all-append (λ b. not (b == 10)) x y ∙ and_from (has_no_end x) (has_no_end y) h k

pub no_end_from_plain : (x : List ℕ) → list_all is_plain x ≡ true → has_no_end x ≡ true
no_end_from_plain [] h = refl
no_end_from_plain (b ∷ bs) h =
    let parts = and_parts (is_plain b) (list_all is_plain bs) h in
    and_from (not (b == 10)) (has_no_end bs) (ap not (plain_parts b parts.0).end) (no_end_from_plain bs parts.1)

-- ---- hexadecimal digits stand for themselves

plain_at : (t : List ℕ) (i : ℕ) → list_all is_plain t ≡ true → is_plain (slice_index t i) ≡ true
plain_at [] i h = refl
plain_at (x ∷ xs) zero h = (and_parts (is_plain x) (list_all is_plain xs) h).0
plain_at (x ∷ xs) (suc i) h = plain_at xs i (and_parts (is_plain x) (list_all is_plain xs) h).1

dash_at : (t : List ℕ) (i : ℕ) → list_all (λ b. not (b == 45)) t ≡ true → (slice_index t i == 45) ≡ false
dash_at [] i h = refl
dash_at (x ∷ xs) zero h = not-true (x == 45) (and_parts (not (x == 45)) (list_all (λ b. not (b == 45)) xs) h).0
dash_at (x ∷ xs) (suc i) h = dash_at xs i (and_parts (not (x == 45)) (list_all (λ b. not (b == 45)) xs) h).1

pub hex_plain : (bytes : List ℕ) → list_all is_plain (encode_lower bytes) ≡ true
unfolding encode_with
hex_plain [] = refl
hex_plain (b ∷ bs) =
    and_from (is_plain (slice_index lower_digits (b / 16)))
    (is_plain (slice_index lower_digits (b % 16)) && list_all is_plain (encode_lower bs))
    (plain_at lower_digits (b / 16) refl)
    (and_from (is_plain (slice_index lower_digits (b % 16))) (list_all is_plain (encode_lower bs))
    (plain_at lower_digits (b % 16) refl) (hex_plain bs))

pub hex_no_dash : (bytes : List ℕ) → first_is_dash (encode_lower bytes) ≡ false
unfolding encode_with
hex_no_dash [] = refl
hex_no_dash (b ∷ bs) = dash_at lower_digits (b / 16) refl

pub hex_some : (bytes : List ℕ) → (bytes ≡ [] → ⊥) → encode_lower bytes ≡ [] → ⊥
unfolding encode_with
hex_some [] h e = h refl
hex_some (b ∷ bs) h e = cc

-- ---- decimal digits have no LF

glyph_no_end : (d : ℕ) → not (digit_glyph false d == 10) ≡ true
glyph_no_end d =
    ⊎_elim
    (λ yes. ap not (ap (λ (g : ℕ). g == 10) (cond-true (nat_lt d 10) (48 + d) (87 + d) yes)
    ∙ ne_eqb (48 + d) 10 (λ e. omega (arith, e))))
    (λ fails. ap not (ap (λ (g : ℕ). g == 10) (cond-false (nat_lt d 10) (48 + d) (87 + d) fails)
    ∙ ne_eqb (87 + d) 10 (λ e. omega (arith, e))))
    (cases_Bool (nat_lt d 10))

digits_no_end : (k n : ℕ) (acc : List ℕ) → has_no_end acc ≡ true → has_no_end (digits_onto k 10 false n acc) ≡ true
digits_no_end zero n acc h = h
digits_no_end (suc k) n acc h =
    ⊎_elim
    (λ yes. ap has_no_end (cond-true (n / 10 == 0) _ _ yes) ∙ longer)
    (λ fails. ap has_no_end (cond-false (n / 10 == 0) _ _ fails)
    ∙ digits_no_end k (n / 10) (digit_glyph false (n % 10) ∷ acc) longer)
    (cases_Bool (n / 10 == 0))
  where
    longer : has_no_end (digit_glyph false (n % 10) ∷ acc) ≡ true
    longer = and_from (not (digit_glyph false (n % 10) == 10)) (has_no_end acc) (glyph_no_end (n % 10)) h

pub decimal_no_end : (n : ℕ) → has_no_end (decimal n) ≡ true
unfolding digits
decimal_no_end n = digits_no_end 64 n [] refl

-- ---- lines

pub line_front : (line rest : List ℕ) → has_no_end line ≡ true → lines_of (line ++ 10 ∷ rest) ≡ line ∷ lines_of rest
unfolding lines_of
line_front [] rest h = refl
line_front (b ∷ bs) rest h =
    let parts = and_parts (not (b == 10)) (has_no_end bs) h in
    ap (λ (ls : List (List ℕ)). add_byte b ls) (line_front bs rest parts.1)
    ∙ cond-false (b == 10) ([] ∷ bs ∷ lines_of rest) ((b ∷ bs) ∷ lines_of rest) (not-true (b == 10) parts.0)

-- ---- words

take_append : (ws : Words) (xs ys : List ℕ) → take_bytes ws (xs ++ ys) ≡ take_bytes (take_bytes ws xs) ys
unfolding take_bytes
take_append ws [] ys = refl
take_append ws (x ∷ xs) ys = take_append (take_byte ws.mode ws x) xs ys

take_plain_byte : (ws : Words) (b : ℕ) → PlainParts b → take_plain ws b ≡ with_byte ws b
take_plain_byte ws b h =
    cond-false (is_blank b) _ _ (or_from (b == 32) (b == 9) h.space h.tab)
    ∙ cond-false (b == 39) _ _ h.quote
    ∙ cond-false (b == 92) _ _ h.backslash

abbrev plain_words : List (List ℕ) → Option (List ℕ) → Words
plain_words done word = record { done = done; word = word; mode = Plain }

plain_more : (done : List (List ℕ)) (u w : List ℕ) → list_all is_plain w ≡ true
    → take_bytes (plain_words done (Some u)) w ≡ plain_words done (Some (u ++ w))
unfolding take_bytes
plain_more done u [] h = ap (λ (x : List ℕ). plain_words done (Some x)) (sym (append-nil u))
plain_more done u (b ∷ bs) h =
    let parts = and_parts (is_plain b) (list_all is_plain bs) h in
    ap (λ (ws : Words). take_bytes ws bs) (take_plain_byte (plain_words done (Some u)) b (plain_parts b parts.0))
    ∙ plain_more done (u ++ b ∷ []) bs parts.1
    ∙ ap (λ (x : List ℕ). plain_words done (Some x)) (append_assoc u (b ∷ []) bs)

-- a word that stands as it is
pub plain_word : (done : List (List ℕ)) (w : List ℕ) → (w ≡ [] → ⊥) → list_all is_plain w ≡ true
    → take_bytes (plain_words done None) w ≡ plain_words done (Some w)
unfolding take_bytes
plain_word done [] some h = absurd (some refl)
plain_word done (b ∷ bs) some h =
    let parts = and_parts (is_plain b) (list_all is_plain bs) h in
    ap (λ (ws : Words). take_bytes ws bs) (take_plain_byte (plain_words done None) b (plain_parts b parts.0))
    ∙ plain_more done (b ∷ []) bs parts.1

quoted_more : (done : List (List ℕ)) (u w : List ℕ) → list_all is_plain w ≡ true
    → take_bytes (record { done = done; word = Some u; mode = Quoted })
    w ≡ record { done = done; word = Some (u ++ w); mode = Quoted }
unfolding take_bytes
quoted_more done u [] h = ap (λ (x : List ℕ). record { done = done; word = Some x; mode = Quoted })
    (sym (append-nil u))
quoted_more done u (b ∷ bs) h =
    let parts = and_parts (is_plain b) (list_all is_plain bs) h in
    ap (λ (ws : Words). take_bytes ws bs) (cond-false (b == 39) _ _ (plain_parts b parts.0).quote)
    ∙ quoted_more done (u ++ b ∷ []) bs parts.1
    ∙ ap (λ (x : List ℕ). record { done = done; word = Some x; mode = Quoted }) (append_assoc u (b ∷ []) bs)

-- a word in quotes, behind a blank
quoted_word : (done : List (List ℕ)) (word : Option (List ℕ)) (w : List ℕ) → list_all is_plain w ≡ true
    → take_bytes (plain_words done word) (quoted w) ≡ plain_words (end_word done word) (Some w)
unfolding take_bytes
quoted_word done word w h =
    take_append (plain_words done word) (codes " '" ++ w) (codes "'")
    ∙ ap (λ (ws : Words). take_bytes ws (codes "'")) (quoted_more (end_word done word) [] w h)

-- words in quotes
pub quoted_words : (done : List (List ℕ)) (word : Option (List ℕ)) (ws : List (List ℕ))
    → list_all (λ w. list_all is_plain w) ws ≡ true
    → told_words (take_bytes (plain_words done word) (flat_map quoted ws)) ≡ Some (end_word done word ++ ws)
unfolding take_bytes
quoted_words done word [] h = ap (λ (x : List (List ℕ)). Some x) (sym (append-nil (end_word done word)))
quoted_words done word (w ∷ ws) h =
    let parts = and_parts (list_all is_plain w) (list_all (λ w. list_all is_plain w) ws) h in
    ap told_words (take_append (plain_words done word) (quoted w) (flat_map quoted ws))
    ∙ ap (λ (x : Words). told_words (take_bytes x (flat_map quoted ws))) (quoted_word done word w parts.0)
    ∙ quoted_words (end_word done word) (Some w) ws parts.1
    ∙ ap (λ (x : List (List ℕ)). Some x) (append_assoc (end_word done word) (w ∷ []) ws)

-- two plain words
pub two_words : (v w : List ℕ) → IsPlainWord v → IsPlainWord w → words_of (v ++ 32 ∷ w) ≡ Some (v ∷ w ∷ [])
unfolding take_bytes words_of
two_words v w one two =
    ap told_words (take_append no_words v (32 ∷ w)
    ∙ ap (λ (ws : Words). take_bytes ws (32 ∷ w)) (plain_word [] v one.some one.plain)
    ∙ plain_word (v ∷ []) w two.some two.plain)

-- a word, and words in quotes behind it
pub word_and_quoted : (v : List ℕ) (ws : List (List ℕ)) → IsPlainWord v
    → list_all (λ w. list_all is_plain w) ws ≡ true → words_of (v ++ flat_map quoted ws) ≡ Some (v ∷ ws)
unfolding take_bytes words_of
word_and_quoted v ws one h =
    ap told_words (take_append no_words v (flat_map quoted ws)
    ∙ ap (λ (x : Words). take_bytes x (flat_map quoted ws)) (plain_word [] v one.some one.plain))
    ∙ quoted_words [] (Some v) ws h

-- ---- reading without numbers

abbrev pub add_word : Line → Option (List LogWord) → Option (List LogWord)
add_word PassedOver rest = rest
add_word NoForm rest = None
add_word (Command word) None = None
add_word (Command word) (Some words) = Some (word ∷ words)

unfoldable pub said_lines : List (List ℕ) → Option (List LogWord)
said_lines [] = Some []
said_lines (line ∷ lines) = add_word (read_line line) (said_lines lines)

said_add : (n : ℕ) (line : Line) (rest : Result (List LogLine) ℕ)
    → said (add_line n line rest) ≡ add_word line (said rest)
said_add n PassedOver rest = refl
said_add n NoForm rest = refl
said_add n (Command word) (Err m) = refl
said_add n (Command word) (Ok lines) = refl

pub said_read : (n : ℕ) (lines : List (List ℕ)) → said (read_lines n lines) ≡ said_lines lines
unfolding read_lines said_lines
said_read n [] = refl
said_read n (line ∷ lines) = said_add n (read_line line) (read_lines (n + 1) lines)
    ∙ ap (λ (o : Option (List LogWord)). add_word (read_line line) o) (said_read (n + 1) lines)

-- what the lines of a text say
abbrev pub says : List ℕ → Option (List LogWord)
says text = said_lines (lines_of text)

pub says_line : (line rest : List ℕ) → has_no_end line ≡ true
    → says (line ++ 10 ∷ rest) ≡ add_word (read_line line) (says rest)
unfolding said_lines
says_line line rest h = ap said_lines (line_front line rest h)
