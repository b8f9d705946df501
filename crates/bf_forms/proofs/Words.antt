-- The first word of a text, by its front.
use Rattle.std.proofs.Common.{◌≡◌, ℕ, suc, Bool, true, false, ◌==◌, ◌&&◌, ◌||◌, List, [], ◌∷◌, ◌++◌, length, take, get_or, refl, sym, ◌∙◌, arith}
use Rattle.std.specs.List.{starts_with}
use Rattle.std.specs.Cmp.Lexicographic.{pointwise}
use Rattle.std.proofs.lemmas.Bool.{ne_eqb}
use Rattle.std.proofs.lemmas.Bool.Decides.{nat_tests}
use Rattle.bf_grammar.specs.Lines.{has_word}
use Rattle.bf_forms.proofs.Fronts.{same_either_way}

suc_same : (x y : ℕ) → (suc x == suc y) ≡ (x == y)
suc_same x y = grind (arith, nat_tests)

front_where : (same a b c d : Bool) → (a || (b && c)) ≡ (b && (c || d)) → ((same && a) || ((same && b) && c)) ≡ ((same && b) && (c || d))
front_where true a b c d e = e
front_where false a b c d e = refl

empty_word : (b : Bool) → ((b && true) || (true && false)) ≡ (true && (false || b))
empty_word true = refl
empty_word false = refl

-- a word at the front of a text is its first word where the text ends there or goes on with SP
pub has_word-front : (word text : List ℕ) → has_word word text
    ≡ (starts_with ◌==◌ text word && (length text == length word || get_or text (length word) 0 == 32))
has_word-front [] [] = refl
has_word-front [] (x ∷ xs) =
    rw (ne_eqb (suc (length xs)) 0 (λ e. omega arith), same_either_way 32 x) (empty_word (x == 32))
has_word-front (w ∷ ws) [] = refl
has_word-front (w ∷ ws) (x ∷ xs) =
    rw (suc_same (length xs) (length ws))
    (front_where (w == x) (pointwise ◌==◌ (ws ++ 32 ∷ []) (take (length (ws ++ 32 ∷ [])) xs)) (pointwise ◌==◌ ws (take (length ws) xs)) (length xs == length ws)
    (get_or xs (length ws) 0 == 32) (has_word-front ws xs))

-- what the test of the front of a text leaves to see
pub word_at_front : (word text : List ℕ) (at_front : Bool) → at_front ≡ starts_with ◌==◌ text word → at_front ≡ true → (length text ≡ length word → ⊥)
    → (get_or text (length word) 0 == 32) ≡ has_word word text
word_at_front word text at_front is t longer =
    rw (has_word-front word text, sym is ∙ t, ne_eqb (length text) (length word) longer) refl

pub word_not_at_front : (word text : List ℕ) (at_front : Bool) → at_front ≡ starts_with ◌==◌ text word → at_front ≡ false → at_front ≡ has_word word text
word_not_at_front word text at_front is f =
    rw (has_word-front word text, sym is ∙ f) f
