-- The words of a text, taken off its front one after the other.
use Rattle.std.proofs.Common.{◌≡◌, ℕ, suc, ◌-◌, ◌<◌, ◌≤◌, ◌==◌, ◌||◌, not, cond, Bool, true, false, List, [], ◌∷◌, ◌++◌, length, take, drop, get_or, Option}
use Rattle.std.proofs.Common.{Some, None, refl, sym, ap, ◌∙◌, append_assoc, append-nil, inl, inr, ◌⊎◌, arith}
use Rattle.std.proofs.lemmas.Bool.{cond-true, cond-false, or_parts, eqb-true}
use Rattle.std.specs.List.{list_any}
use Rattle.std.proofs.lemmas.List.{take_rest}
use Rattle.bf_reading.specs.Reading.{is_blank, is_escaped, past_blanks, Mode, Plain, Quoted, Escaped, Words, no_words, end_word, with_byte, in_mode, take_plain}
use Rattle.bf_reading.specs.Reading.{take_byte, take_bytes, words_at_end, told_words, words_of}
use Rattle.bf_reading.specs.Answers.{with_word, words_inside, words_quoted, begins_word, is_special}

pub take_append : (ws : Words) (xs ys : List ℕ) → take_bytes ws (xs ++ ys) ≡ take_bytes (take_bytes ws xs) ys
unfolding take_bytes
take_append ws [] ys = refl
take_append ws (x ∷ xs) ys = take_append (take_byte ws.mode ws x) xs ys

-- ---- words that ended before stay in front

abbrev behind_words : List (List ℕ) → Words → Words
behind_words front ws = record { done = front ++ ws.done; word = ws.word; mode = ws.mode }

behind_cond : (front : List (List ℕ)) (c : Bool) (x y : Words) → cond c (behind_words front x) (behind_words front y) ≡ behind_words front (cond c x y)
behind_cond front true x y = refl
behind_cond front false x y = refl

behind_end : (front done : List (List ℕ)) (word : Option (List ℕ)) → end_word (front ++ done) word ≡ front ++ end_word done word
behind_end front done None = refl
behind_end front done (Some word) = append_assoc front done (word ∷ [])

behind_plain : (front : List (List ℕ)) (ws : Words) (b : ℕ) → take_plain (behind_words front ws) b ≡ behind_words front (take_plain ws b)
behind_plain front ws b =
    ap (λ (done : List (List ℕ)). cond (is_blank b) (record { done = done; word = None; mode = Plain })
    (cond (b == 39) (behind_words front (in_mode ws Quoted))
    (cond (b == 92) (behind_words front (in_mode ws Escaped)) (behind_words front (with_byte ws b))))) (behind_end front ws.done ws.word)
    ∙ ap (λ (x : Words). cond (is_blank b) (behind_words front (record { done = end_word ws.done ws.word; word = None; mode = Plain }))
    (cond (b == 39) (behind_words front (in_mode ws Quoted)) x)) (behind_cond front (b == 92) (in_mode ws Escaped) (with_byte ws b))
    ∙ ap (λ (x : Words). cond (is_blank b) (behind_words front (record { done = end_word ws.done ws.word; word = None; mode = Plain })) x)
    (behind_cond front (b == 39) (in_mode ws Quoted) (cond (b == 92) (in_mode ws Escaped) (with_byte ws b)))
    ∙ behind_cond front (is_blank b) (record { done = end_word ws.done ws.word; word = None; mode = Plain })
    (cond (b == 39) (in_mode ws Quoted) (cond (b == 92) (in_mode ws Escaped) (with_byte ws b)))

behind_byte : (front : List (List ℕ)) (mode : Mode) (ws : Words) (b : ℕ) → take_byte mode (behind_words front ws) b ≡ behind_words front (take_byte mode ws b)
behind_byte front Plain ws b = behind_plain front ws b
behind_byte front Quoted ws b = behind_cond front (b == 39) (in_mode ws Plain) (with_byte ws b)
behind_byte front Escaped ws b =
    ap (λ (x : Words). cond (is_escaped b) (behind_words front (in_mode (with_byte ws b) Plain)) x) (behind_plain front (in_mode (with_byte ws 92) Plain) b)
    ∙ behind_cond front (is_escaped b) (in_mode (with_byte ws b) Plain) (take_plain (in_mode (with_byte ws 92) Plain) b)

behind_bytes : (front : List (List ℕ)) (ws : Words) (bs : List ℕ) → take_bytes (behind_words front ws) bs ≡ behind_words front (take_bytes ws bs)
unfolding take_bytes
behind_bytes front ws [] = refl
behind_bytes front ws (b ∷ bs) = ap (λ (x : Words). take_bytes x bs) (behind_byte front ws.mode ws b) ∙ behind_bytes front (take_byte ws.mode ws b) bs

told_behind : (word : List ℕ) (mode : Mode) (ws : Words) → words_at_end mode (behind_words (word ∷ []) ws) ≡ with_word word (words_at_end mode ws)
told_behind word Plain ws = ap (λ (x : List (List ℕ)). Some x) (behind_end (word ∷ []) ws.done ws.word)
told_behind word Quoted ws = refl
told_behind word Escaped ws = refl

-- a word that has ended, and the words behind it
ended : (word bs : List ℕ) → told_words (take_bytes (record { done = word ∷ []; word = None; mode = Plain }) bs) ≡ with_word word (words_of bs)
unfolding words_of
ended word bs = ap told_words (behind_bytes (word ∷ []) no_words bs) ∙ told_behind word (take_bytes no_words bs).mode (take_bytes no_words bs)

-- ---- what stands in front of a text

pub blank_passed : (b : ℕ) (bs : List ℕ) → is_blank b ≡ true → words_of (b ∷ bs) ≡ words_of bs
unfolding take_bytes words_of
blank_passed b bs h = ap (λ (ws : Words). told_words (take_bytes ws bs)) (cond-true (is_blank b) _ _ h)

pub blanks_passed : (text : List ℕ) → words_of text ≡ words_of (past_blanks text)
unfolding past_blanks
blanks_passed [] = refl
blanks_passed (b ∷ bs) = by_blank (is_blank b) refl (blanks_passed bs)
  where
    by_blank : (t : Bool) → is_blank b ≡ t → words_of bs ≡ words_of (past_blanks bs) → words_of (b ∷ bs) ≡ words_of (cond t (past_blanks bs) (b ∷ bs))
    by_blank true h rest = blank_passed b bs h ∙ rest
    by_blank false h rest = refl

pub begun_behind_blanks : (text : List ℕ) → (past_blanks text ≡ []) ⊎ (begins_word (past_blanks text) ≡ true)
unfolding past_blanks
begun_behind_blanks [] = inl refl
begun_behind_blanks (b ∷ bs) = by_blank (is_blank b) refl (begun_behind_blanks bs)
  where
    by_blank : (t : Bool) → is_blank b ≡ t → (past_blanks bs ≡ []) ⊎ (begins_word (past_blanks bs) ≡ true)
        → (cond t (past_blanks bs) (b ∷ bs) ≡ []) ⊎ (begins_word (cond t (past_blanks bs) (b ∷ bs)) ≡ true)
    by_blank true h rest = rest
    by_blank false h rest = inr (ap not h)

pub blanks_shorten : (text : List ℕ) → length (past_blanks text) ≤ length text
unfolding past_blanks
blanks_shorten [] = omega arith
blanks_shorten (b ∷ bs) = by_blank (is_blank b) (blanks_shorten bs)
  where
    by_blank : (t : Bool) → length (past_blanks bs) ≤ length bs → length (cond t (past_blanks bs) (b ∷ bs)) ≤ length (b ∷ bs)
    by_blank true h = omega arith
    by_blank false h = omega arith

-- a word in front may as well have begun
pub begun_inside : (text : List ℕ) → begins_word text ≡ true → words_of text ≡ words_inside [] text
unfolding words_of words_inside take_bytes
begun_inside [] h = cc
begun_inside (b ∷ bs) h = by_blank (is_blank b) refl h
  where
    by_blank : (t : Bool) → is_blank b ≡ t → not t ≡ true
        → told_words (take_bytes (take_plain no_words b) bs) ≡ told_words (take_bytes (take_plain (record { done = []; word = Some []; mode = Plain }) b) bs)
    by_blank true e k = cc
    by_blank false e k = ap (λ (x : Words). told_words (take_bytes x bs)) (cond-false (is_blank b) _ _ e ∙ sym (cond-false (is_blank b) _ _ e))

-- ---- inside of a word

pub ends_here : (word : List ℕ) → words_inside word [] ≡ with_word word (words_of [])
unfolding words_inside words_of take_bytes
ends_here word = refl

pub ends_at_blank : (word : List ℕ) (b : ℕ) (bs : List ℕ) → is_blank b ≡ true → words_inside word (b ∷ bs) ≡ with_word word (words_of (b ∷ bs))
unfolding words_inside take_bytes
ends_at_blank word b bs h =
    ap (λ (ws : Words). told_words (take_bytes ws bs)) (cond-true (is_blank b) _ _ h)
    ∙ ended word bs
    ∙ ap (with_word word) (sym (blank_passed b bs h))

pub opens_quote : (word bs : List ℕ) → words_inside word (39 ∷ bs) ≡ words_quoted word bs
unfolding words_inside words_quoted take_bytes
opens_quote word bs = refl

pub escapes : (word : List ℕ) (b : ℕ) (bs : List ℕ) → is_escaped b ≡ true → words_inside word (92 ∷ b ∷ bs) ≡ words_inside (word ++ b ∷ []) bs
unfolding words_inside take_bytes
escapes word b bs h = ap (λ (ws : Words). told_words (take_bytes ws bs)) (cond-true (is_escaped b) _ _ h)

pub backslash_ends : (word : List ℕ) → words_inside word (92 ∷ []) ≡ words_inside (word ++ 92 ∷ []) []
unfolding words_inside take_bytes
backslash_ends word = refl

pub backslash : (word : List ℕ) (b : ℕ) (bs : List ℕ) → is_escaped b ≡ false → words_inside word (92 ∷ b ∷ bs) ≡ words_inside (word ++ 92 ∷ []) (b ∷ bs)
unfolding words_inside take_bytes
backslash word b bs h = ap (λ (ws : Words). told_words (take_bytes ws bs)) (cond-false (is_escaped b) _ _ h)

plain_byte : (ws : Words) (b : ℕ) → is_special b ≡ false → take_plain ws b ≡ with_byte ws b
plain_byte ws b h =
    let one = (or_parts (is_blank b || (b == 39)) (b == 92) h).0 in
    cond-false (is_blank b) _ _ (or_parts (is_blank b) (b == 39) one).0
    ∙ cond-false (b == 39) _ _ (or_parts (is_blank b) (b == 39) one).1
    ∙ cond-false (b == 92) _ _ (or_parts (is_blank b || (b == 39)) (b == 92) h).1

-- bytes that stand for themselves
pub plain_run : (word xs ys : List ℕ) → list_any is_special xs ≡ false → words_inside word (xs ++ ys) ≡ words_inside (word ++ xs) ys
unfolding words_inside take_bytes
plain_run word [] ys h = ap (λ (w : List ℕ). words_inside w ys) (sym (append-nil word))
plain_run word (x ∷ xs) ys h =
    ap (λ (ws : Words). told_words (take_bytes ws (xs ++ ys)))
    (plain_byte (record { done = []; word = Some word; mode = Plain }) x (or_parts (is_special x) (list_any is_special xs) h).0)
    ∙ plain_run (word ++ x ∷ []) xs ys (or_parts (is_special x) (list_any is_special xs) h).1
    ∙ ap (λ (w : List ℕ). words_inside w ys) (append_assoc word (x ∷ []) xs)

-- a quoted part, and a quote that is open at the end
pub quoted_run : (word xs ys : List ℕ) → list_any (λ b. b == 39) xs ≡ false → words_quoted word (xs ++ 39 ∷ ys) ≡ words_inside (word ++ xs) ys
unfolding words_inside words_quoted take_bytes
quoted_run word [] ys h = ap (λ (w : List ℕ). words_inside w ys) (sym (append-nil word))
quoted_run word (x ∷ xs) ys h =
    ap (λ (ws : Words). told_words (take_bytes ws (xs ++ 39 ∷ ys))) (cond-false (x == 39) _ _ (or_parts (x == 39) (list_any (λ b. b == 39) xs) h).0)
    ∙ quoted_run (word ++ x ∷ []) xs ys (or_parts (x == 39) (list_any (λ b. b == 39) xs) h).1
    ∙ ap (λ (w : List ℕ). words_inside w ys) (append_assoc word (x ∷ []) xs)

pub open_quote : (word xs : List ℕ) → list_any (λ b. b == 39) xs ≡ false → words_quoted word xs ≡ None
unfolding words_quoted take_bytes
open_quote word [] h = refl
open_quote word (x ∷ xs) h =
    ap (λ (ws : Words). told_words (take_bytes ws xs)) (cond-false (x == 39) _ _ (or_parts (x == 39) (list_any (λ b. b == 39) xs) h).0)
    ∙ open_quote (word ++ x ∷ []) xs (or_parts (x == 39) (list_any (λ b. b == 39) xs) h).1

-- ---- as slices show the first byte and the rest

rest_of : List ℕ → List ℕ
rest_of xs = take (length xs - 1) (drop 1 xs)

first_and_rest : (xs : List ℕ) → 1 ≤ length xs → xs ≡ get_or xs 0 0 ∷ rest_of xs
unfolding rest_of
first_and_rest [] h = absurd (omega arith)
first_and_rest (x ∷ xs) h = ap (λ (ys : List ℕ). x ∷ ys) (sym (take_rest (x ∷ xs) 1))

pub blank_in_front : (xs : List ℕ) → 1 ≤ length xs → is_blank (get_or xs 0 0) ≡ true → past_blanks (take (length xs - 1) (drop 1 xs)) ≡ past_blanks xs
unfolding past_blanks rest_of
blank_in_front [] h is = absurd (omega arith)
blank_in_front (x ∷ xs) h is = ap past_blanks (take_rest (x ∷ xs) 1) ∙ sym (cond-true (is_blank x) (past_blanks xs) (x ∷ xs) is)

pub nothing_in_front : (xs : List ℕ) → length xs < 1 → xs ≡ past_blanks xs
unfolding past_blanks
nothing_in_front [] h = refl
nothing_in_front (x ∷ xs) h = absurd (omega arith)

pub no_blank_in_front : (xs : List ℕ) → 1 ≤ length xs → is_blank (get_or xs 0 0) ≡ false → xs ≡ past_blanks xs
unfolding past_blanks
no_blank_in_front [] h is = absurd (omega arith)
no_blank_in_front (x ∷ xs) h is = sym (cond-false (is_blank x) (past_blanks xs) (x ∷ xs) is)

pub quote_in_front : (word xs : List ℕ) → 1 ≤ length xs → get_or xs 0 0 ≡ 39 → words_inside word xs ≡ words_quoted word (take (length xs - 1) (drop 1 xs))
unfolding rest_of
quote_in_front word xs h is =
    ap (words_inside word) (first_and_rest xs h ∙ ap (λ (b : ℕ). b ∷ rest_of xs) is) ∙ opens_quote word (rest_of xs)

pub backslash_in_front : (xs : List ℕ) → 1 ≤ length xs → get_or xs 0 0 ≡ 92 → xs ≡ 92 ∷ take (length xs - 1) (drop 1 xs)
unfolding rest_of
backslash_in_front xs h is = first_and_rest xs h ∙ ap (λ (b : ℕ). b ∷ rest_of xs) is

pub escaped_in_front : (word new xs : List ℕ) → 1 ≤ length xs → is_escaped (get_or xs 0 0) ≡ true → new ≡ word ++ get_or xs 0 0 ∷ []
    → words_inside word (92 ∷ xs) ≡ words_inside new (take (length xs - 1) (drop 1 xs))
unfolding rest_of
escaped_in_front word new xs h is e =
    ap (λ (ys : List ℕ). words_inside word (92 ∷ ys)) (first_and_rest xs h) ∙ escapes word (get_or xs 0 0) (rest_of xs) is ∙ ap
    (λ (w : List ℕ). words_inside w (rest_of xs)) (sym e)

pub not_escaped : (word new xs : List ℕ) → (length xs < 1) ⊎ (is_escaped (get_or xs 0 0) ≡ false) → new ≡ word ++ 92 ∷ []
    → words_inside word (92 ∷ xs) ≡ words_inside new xs
not_escaped word new [] h e = backslash_ends word ∙ ap (λ (w : List ℕ). words_inside w []) (sym e)
not_escaped word new (x ∷ xs) (inl h) e = absurd (omega arith)
not_escaped word new (x ∷ xs) (inr h) e = backslash word x xs h ∙ ap (λ (w : List ℕ). words_inside w (x ∷ xs)) (sym e)

pub plain_in_front : (word new text xs ys : List ℕ) → text ≡ xs ++ ys → list_any is_special xs ≡ false → new ≡ word ++ xs
    → words_inside word text ≡ words_inside new ys
plain_in_front word new text xs ys is h e = ap (words_inside word) is ∙ plain_run word xs ys h ∙ ap (λ (w : List ℕ). words_inside w ys) (sym e)

pub quoted_in_front : (word new text xs ys : List ℕ) → text ≡ xs ++ 39 ∷ ys → list_any (λ b. b == 39) xs ≡ false → new ≡ word ++ xs
    → words_quoted word text ≡ words_inside new ys
quoted_in_front word new text xs ys is h e = ap (words_quoted word) is ∙ quoted_run word xs ys h ∙ ap (λ (w : List ℕ). words_inside w ys) (sym e)

pub ends_in_front : (word xs : List ℕ) → (length xs < 1) ⊎ ((1 ≤ length xs) × (is_blank (get_or xs 0 0) ≡ true))
    → words_inside word xs ≡ with_word word (words_of xs)
ends_in_front word [] h = ends_here word
ends_in_front word (x ∷ xs) (inl h) = absurd (omega arith)
ends_in_front word (x ∷ xs) (inr h) = ends_at_blank word x xs h.1

-- ---- the word in front of a text

empty_is_none : (xs : List ℕ) → (length xs == 0) ≡ true → xs ≡ []
empty_is_none [] h = refl
empty_is_none (x ∷ xs) h = absurd (omega (arith, eqb-true (suc (length xs)) 0 h))

some_is_some : (xs : List ℕ) → (length xs == 0) ≡ false → xs ≡ [] → ⊥
some_is_some [] h e = cc
some_is_some (x ∷ xs) h e = cc

pub no_word : (text rest : List ℕ) → rest ≡ past_blanks text → (length rest == 0) ≡ true → words_of text ≡ Some []
unfolding take_bytes words_of
no_word text rest e h = blanks_passed text ∙ ap words_of (sym e ∙ empty_is_none rest h)

pub begins_behind_blanks : (text rest : List ℕ) → rest ≡ past_blanks text → (length rest == 0) ≡ false → begins_word rest ≡ true
begins_behind_blanks text rest e some = elim (begun_behind_blanks text)
    [ inl none ↦ absurd (some_is_some rest some (e ∙ none)) | inr begins ↦ ap begins_word e ∙ begins ]

pub words_behind_blanks : (text rest : List ℕ) → rest ≡ past_blanks text → begins_word rest ≡ true → words_of text ≡ words_inside [] rest
words_behind_blanks text rest e begins = blanks_passed text ∙ ap words_of (sym e) ∙ begun_inside rest begins
