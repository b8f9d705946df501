-- The first word of a text.
use Rattle.std.proofs.Common.{◌≡◌, ℕ, ◌+◌, ◌≤◌, Bool, false, ◌==◌, ◌&&◌, ◌||◌, List, [], ◌∷◌, ◌++◌, length, take, sym, ap, ◌∙◌, arith}
use Rattle.std.proofs.Common.{inl, inr, length-append}
use Rattle.std.specs.Cmp.Lexicographic.{pointwise}
use Rattle.std.proofs.lemmas.Bool.{cases_lt, ne_eqb}
use Rattle.std.proofs.lemmas.List.{take-take, take_all, length-take}
use Rattle.bf_grammar.specs.Lines.{has_word, is_passed_over}

-- the length of a text against that of a word, by the first bytes of the text
length-cut : (word text : List ℕ) → length word ≤ 14 → (length (take 16 text) == length word) ≡ (length text == length word)
length-cut word text short =
    elim (cases_lt (length text) 17) [
      | inl few ↦ ap (λ (l : List ℕ). length l == length word) (take_all 16 text (omega arith))
      | inr many ↦ ne_eqb (length (take 16 text)) (length word) (λ e. omega (arith, length-take 16 text)) ∙ sym
          (ne_eqb (length text) (length word) (λ e. omega arith))
    ]

-- the first bytes of a text tell its first word
pub has_word-cut : (word text : List ℕ) → length word ≤ 14 → has_word word (take 16 text) ≡ has_word word text
has_word-cut word text short =
    let spaced : List ℕ = word ++ 32 ∷ [] in
    let size : length spaced ≡ length word + 1 = length-append word (32 ∷ []) in
    ap (λ (l : List ℕ). pointwise ◌==◌ spaced l || (pointwise ◌==◌ word (take (length word) (take 16 text)) && (length (take 16 text) == length word)))
    (take-take (length spaced) 16 text (omega arith))
    ∙ ap (λ (l : List ℕ). pointwise ◌==◌ spaced (take (length spaced) text) || (pointwise ◌==◌ word l && (length (take 16 text) == length word)))
    (take-take (length word) 16 text (omega arith))
    ∙ ap (λ (b : Bool). pointwise ◌==◌ spaced (take (length spaced) text) || (pointwise ◌==◌ word (take (length word) text) && b)) (length-cut word text short)

-- the first byte of a text tells a comment
pub comment-cut : (text : List ℕ) → is_passed_over false (take 16 text) ≡ is_passed_over false text
comment-cut text = ap (λ (l : List ℕ). pointwise ◌==◌ (35 ∷ []) l || false) (take-take 1 16 text (omega arith))
