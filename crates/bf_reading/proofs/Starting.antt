-- The words of a start line, taken one after the other.
use Rattle.std.proofs.Common.{◌≡◌, ℕ, not, Bool, true, false, List, [], ◌∷◌, ◌++◌, codes, Option, Some, None, refl, sym, ap, ◌∙◌, append_assoc, append-nil}
use Rattle.std.specs.List.{list_all}
use Rattle.bf_reading.specs.declared.line.LogWord.TheVariants.{Start}
use Rattle.bf_reading.specs.declared.start.StartLine.{StartLine}
use Rattle.bf_reading.specs.declared.start.Wants.TheVariants.{AnyWord}
use Rattle.bf_reading.specs.Reading.{and_then, with_new, with_old, take_value, take_word, end_start, read_start, read_mark, read_words, is_word, first_is_dash}
use Rattle.bf_reading.specs.Reading.{nothing_started}
use Rattle.bf_reading.specs.Answers.{with_word, IsRefusal}
use Rattle.bf_reading.specs.declared.line.LineFault.{LineFault}
use Rattle.bf_reading.specs.declared.line.LineFault.TheVariants as line_fault
use Rattle.std.proofs.lemmas.Bool.{and_parts, not-true, cond-true, cond-false}

-- a word is taken, and the words behind it follow
pub word_taken : (words : Option (List (List ℕ))) (s t : StartLine) (w : List ℕ) → take_word s.wants s w ≡ Some t
    → and_then (with_word w words) (read_start s) ≡ and_then words (read_start t)
unfolding read_start
word_taken None s t w h = refl
word_taken (Some ws) s t w h = ap (λ (o : Option StartLine). and_then o (λ next. read_start next ws)) h

pub word_refused : (fault : LineFault) (words : Option (List (List ℕ))) (s : StartLine) (w : List ℕ) → IsRefusal fault (take_word s.wants s w)
    → IsRefusal fault (and_then (with_word w words) (read_start s))
unfolding read_start
word_refused line_fault.NoMemory words s w h = tt
word_refused line_fault.NoForm None s w h = refl
word_refused line_fault.NoForm (Some ws) s w h = ap (λ (o : Option StartLine). and_then o (λ next. read_start next ws)) h

pub no_word_left : (s : StartLine) → and_then (Some []) (read_start s) ≡ end_start s.wants s
unfolding read_start
no_word_left s = refl

-- a term in the same word as its option
pub new_taken : (s t : StartLine) (one other : Option (List ℕ)) (x term : List ℕ) → one ≡ Some x → t ≡ with_new s term → term ≡ x
    → take_value s one other ≡ Some t
new_taken s t one other x term h e f = ap (λ (o : Option (List ℕ)). take_value s o other) h ∙ ap (λ (y : List ℕ). Some (with_new s y)) (sym f) ∙ ap
    (λ (u : StartLine). Some u) (sym e)

pub old_taken : (s t : StartLine) (one other : Option (List ℕ)) (x term : List ℕ) → one ≡ None → other ≡ Some x → t ≡ with_old s term → term ≡ x
    → take_value s one other ≡ Some t
old_taken s t one other x term n h e f =
    ap (λ (o : Option (List ℕ)). take_value s o other) n
    ∙ ap (take_value s None) h
    ∙ ap (λ (y : List ℕ). Some (with_old s y)) (sym f)
    ∙ ap (λ (u : StartLine). Some u) (sym e)

-- ---- the first word of a command line

pub no_first_word : and_then (Some []) read_words ≡ None
unfolding read_words
no_first_word = refl

pub starts : (word : List ℕ) (words : Option (List (List ℕ))) → is_word (codes "start") word ≡ true
    → and_then (with_word word words) read_words ≡ and_then words (read_start nothing_started)
unfolding read_words
starts word None h = refl
starts word (Some ws) h = cond-true (is_word (codes "start") word) _ _ h

pub marks : (word : List ℕ) (words : Option (List (List ℕ))) → is_word (codes "start") word ≡ false
    → and_then (with_word word words) read_words ≡ and_then words (read_mark word)
unfolding read_words
marks word None h = refl
marks word (Some ws) h = cond-false (is_word (codes "start") word) _ _ h

-- ---- names alone

abbrev pub named_start : Bool → Option (List ℕ) → Option (List ℕ) → List (List ℕ) → StartLine
named_start first_parent new old revs = record { first_parent = first_parent; new_term = new; old_term = old; revs = revs; wants = AnyWord }

pub read_names : (first_parent : Bool) (new old : Option (List ℕ)) (revs ws : List (List ℕ)) → list_all (λ w. not (first_is_dash w)) ws ≡ true
    → read_start (named_start first_parent new old revs) ws ≡ Some (Start first_parent new old (revs ++ ws))
unfolding read_start
read_names first_parent new old revs [] h = ap (λ (x : List (List ℕ)). Some (Start first_parent new old x)) (sym (append-nil revs))
read_names first_parent new old revs (w ∷ ws) h =
    let parts = and_parts (not (first_is_dash w)) (list_all (λ w. not (first_is_dash w)) ws) h in
    ap (λ (o : Option StartLine). and_then o (λ next. read_start next ws)) (cond-false (first_is_dash w) _ _ (not-true (first_is_dash w) parts.0))
    ∙ read_names first_parent new old (revs ++ w ∷ []) ws parts.1
    ∙ ap (λ (x : List (List ℕ)). Some (Start first_parent new old x)) (append_assoc revs (w ∷ []) ws)
