-- A text, cut at the first byte that passes a test.
use Rattle.std.proofs.Common.{◌≡◌, ℕ, ◌+◌, ◌-◌, ◌<◌, ◌≤◌, Bool, true, false, ◌==◌, ◌&&◌, List, [], ◌∷◌, ◌++◌, length, take, drop, get_or, Option, Some, None}
use Rattle.std.proofs.Common.{refl, sym, ap, ◌∙◌, arith, inl, inr, add-one, MatchOption}
use Rattle.std.specs.List.{list_any}
use Rattle.std.proofs.Math.Seq.{drop-cons}
use Rattle.std.specs.Cmp.Lexicographic.{pointwise}
use Rattle.std.proofs.lemmas.Bool.{cases_Bool, cond-true, cond-false, and_parts, eqb-true, eq-eqb}
use Rattle.std.proofs.lemmas.Bool.Decides.{eqb_tells}
use Rattle.std.specs.Borrow.{Bor}
use Rattle.bf_reading.specs.Answers.{IsPart}
use Rattle.bf_reading.specs.Reading.{behind, behind_either, or_else}
use Rattle.std.proofs.lemmas.Grind.{get_or_default_zero}
use Rattle.std.proofs.lemmas.List.{take_rest, take-append-drop, get_or-take, length-take-le}
use Rattle.std.proofs.lemmas.List.Folds.{list_any_none}
use Rattle.memchr.specs.Find.{IsFirstByte, is_byte}

fails_before : (test : ℕ → Bool) (xs : List ℕ) (k : ℕ) → ((j : ℕ) → j < k → test (get_or xs j 0) ≡ true → ⊥) → k ≤ length xs → list_any test (take k xs) ≡ false
fails_before test xs k h le =
    list_any_none test (take k xs) (λ j d lt.
    let below : j < k = omega (arith, length-take-le k xs le) in
    let inside : j < length xs = omega arith in
    let none : test (get_or xs j 0) ≡ false = elim (cases_Bool (test (get_or xs j 0))) [ inl passes ↦ absurd (h j below passes) | inr fails ↦ fails ] in
    rw (get_or-take k xs j d below, get_or_default_zero xs j d inside) none)

-- a text is what stands before the first such byte, the byte, and what stands behind it, as slices cut it
pub cut_at : (a : ℕ) (xs : List ℕ) (k : ℕ) → IsFirstByte (is_byte a) xs (Some k) → xs ≡ take k xs ++ a ∷ take (length xs - (k + 1)) (drop (k + 1) xs)
cut_at a xs k found =
    let here : get_or xs k 0 ≡ a = eqb-true (get_or xs k 0) a found.1 in
    sym (take-append-drop k xs)
    ∙ ap (λ (ys : List ℕ). take k xs ++ ys) (rw add-one (drop-cons xs k 0 found.0.high) ∙ ap (λ (b : ℕ). b ∷ drop (k + 1) xs) here ∙ ap
    (λ (ys : List ℕ). a ∷ ys) (sym (take_rest xs (k + 1))))

pub none_before : (test : ℕ → Bool) (xs : List ℕ) (k : ℕ) → IsFirstByte test xs (Some k) → list_any test (take k xs) ≡ false
none_before test xs k found = fails_before test xs k (λ j lt passes. found.0.before j (omega arith) lt passes) (omega (arith, found.0.high))

pub none_at_all : (test : ℕ → Bool) (xs : List ℕ) → IsFirstByte test xs None → list_any test xs ≡ false
none_at_all test xs nowhere = list_any_none test xs (λ j d lt.
    let none : test (get_or xs j 0) ≡ false = elim (cases_Bool (test (get_or xs j 0)))
    [ inl passes ↦ absurd (nowhere j (omega arith) lt passes) | inr fails ↦ fails ] in
    rw (get_or_default_zero xs j d lt) none)

-- ---- what stands behind a word

pub behind_found : (word text : List ℕ) → pointwise ◌==◌ (take (length word) text) word ≡ true → behind word text ≡ Some (drop (length word) text)
unfolding behind
behind_found [] text h = refl
behind_found (w ∷ ws) [] h = cc
behind_found (w ∷ ws) (x ∷ xs) h =
    let parts = and_parts (x == w) (pointwise ◌==◌ (take (length ws) xs) ws) h in
    cond-true (w == x) (behind ws xs) None (eq-eqb w x (sym (eqb-true x w parts.0))) ∙ behind_found ws xs parts.1

pub behind_missing : (word text : List ℕ) → pointwise ◌==◌ (take (length word) text) word ≡ false → behind word text ≡ None
unfolding behind
behind_missing [] text h = cc
behind_missing (w ∷ ws) [] h = refl
behind_missing (w ∷ ws) (x ∷ xs) h =
    elim (eqb_tells w x) [
      | inl same ↦ cond-true (w == x) (behind ws xs) None same.0 ∙ behind_missing ws xs
          (sym (and_true (x == w) (pointwise ◌==◌ (take (length ws) xs) ws) (eq-eqb x w (sym same.1))) ∙ h)
      | inr other ↦ cond-false (w == x) (behind ws xs) None other.0
    ]
  where
    and_true : (a b : Bool) → a ≡ true → (a && b) ≡ b
    and_true true b e = refl
    and_true false b e = cc

-- what stands behind one of two words
pub behind_one : (one other text rest : List ℕ) → pointwise ◌==◌ (take (length one) text) one ≡ true → rest ≡ drop (length one) text
    → behind_either one other text ≡ Some rest
behind_one one other text rest h e = ap (λ (o : Option (List ℕ)). or_else o (behind other text)) (behind_found one text h) ∙ ap (λ (r : List ℕ). Some r) (sym e)

pub behind_other : (one other text : List ℕ) (result : Option (Bor (List ℕ))) → pointwise ◌==◌ (take (length one) text) one ≡ false
    → MatchOption result (pointwise ◌==◌ (take (length other) text) other ≡ false)
    (λ x. (pointwise ◌==◌ (take (length other) text) other ≡ true) × (x.now ≡ drop (length other) text) × (length x.now + length other ≡ length text))
    → IsPart (behind_either one other text) result
behind_other one other text None fails h = ap (λ (o : Option (List ℕ)). or_else o (behind other text)) (behind_missing one text fails) ∙ behind_missing other
    text h
behind_other one other text (Some x) fails h =
    ap (λ (o : Option (List ℕ)). or_else o (behind other text)) (behind_missing one text fails)
    ∙ behind_found other text h.0
    ∙ ap (λ (r : List ℕ). Some r) (sym h.1)
