-- The front of a text: a word and what follows it, and the first byte that passes a test.
use Rattle.std.proofs.Common.{◌≡◌, ℕ, ◌+◌, ◌-◌, ◌<◌, Bool, true, false, ◌==◌, ◌&&◌, List, [], ◌∷◌, ◌++◌, length, take, drop, get_or, Option, Some, None}
use Rattle.std.proofs.Common.{is_some, refl, sym, ap, ◌∙◌, arith, inl, inr, MatchOption}
use Rattle.std.specs.Borrow.{Bor}
use Rattle.bf_forms.specs.Answers.{IsPartWhere}
use Rattle.std.specs.List.{starts_with, list_any, position_or_len, before_first, after_first}
use Rattle.std.specs.Cmp.Lexicographic.{pointwise}
use Rattle.std.specs.Option.{unwrap_or}
use Rattle.std.proofs.lemmas.Bool.{cases_Bool}
use Rattle.std.proofs.lemmas.Bool.Decides.{nat_tests}
use Rattle.std.proofs.lemmas.Grind.{get_or_default_zero}
use Rattle.std.proofs.lemmas.List.{take_all, take_rest, drop_all, drop-drop}
use Rattle.std.proofs.lemmas.List.Folds.{list_any_at, list_any_none}
use Rattle.std.proofs.lemmas.List.Sums.{position_or_len_is}
use Rattle.memchr.specs.Find.{IsFirstByte}

pub same_either_way : (x y : ℕ) → (x == y) ≡ (y == x)
same_either_way x y = grind (arith, nat_tests)

pointwise_either_way : (xs ys : List ℕ) → pointwise ◌==◌ xs ys ≡ pointwise ◌==◌ ys xs
pointwise_either_way [] [] = refl
pointwise_either_way [] (y ∷ ys) = refl
pointwise_either_way (x ∷ xs) [] = refl
pointwise_either_way (x ∷ xs) (y ∷ ys) = rw (same_either_way x y, pointwise_either_way xs ys)

and_assoc : (a b c : Bool) → (a && (b && c)) ≡ ((a && b) && c)
and_assoc true b c = refl
and_assoc false b c = refl

-- a text begins with a word and more where it begins with the word and the rest with more
pub begins_with_both : (word more text : List ℕ)
    → starts_with ◌==◌ text (word ++ more) ≡ (pointwise ◌==◌ (take (length word) text) word && pointwise ◌==◌ (take (length more) (drop (length word) text))
    more)
begins_with_both [] more text = pointwise_either_way more (take (length more) text)
begins_with_both (w ∷ ws) more [] = refl
begins_with_both (w ∷ ws) more (x ∷ xs) =
    rw (begins_with_both ws more xs, same_either_way w x)
    (and_assoc (x == w) (pointwise ◌==◌ (take (length ws) xs) ws) (pointwise ◌==◌ (take (length more) (drop (length ws) xs)) more))

-- what stands behind a word and more, taken off one after the other
pub behind_both : (word more text rest : List ℕ) (result : Option (Bor (List ℕ))) → pointwise ◌==◌ (take (length word) text) word ≡ true
    → rest ≡ drop (length word) text
    → MatchOption result (pointwise ◌==◌ (take (length more) rest) more ≡ false)
    (λ x. (pointwise ◌==◌ (take (length more) rest) more ≡ true) × (x.now ≡ drop (length more) rest) × (length x.now + length more ≡ length rest))
    → IsPartWhere (starts_with ◌==◌ text (word ++ more)) (drop (length word + length more) text) result
behind_both word more text rest None first e fails = rw (begins_with_both word more text, first, ← e) fails
behind_both word more text rest (Some x) first e found =
    (rw (begins_with_both word more text, first, ← e) found.0, found.1 ∙ ap (drop (length more)) e ∙ drop-drop (length more) (length word) text)

-- whether a byte that passes was found, and where the first stands
pub first_byte_is : (test : ℕ → Bool) (xs : List ℕ) (found : Option ℕ) → IsFirstByte test xs found
    → (list_any test xs ≡ is_some found) × (position_or_len test xs ≡ unwrap_or found (length xs))
first_byte_is test xs None nowhere =
    let fails : (k : ℕ) → k < length xs → test (get_or xs k 0) ≡ false =
    λ k lt. elim (cases_Bool (test (get_or xs k 0))) [ inl passes ↦ absurd (nowhere k (omega arith) lt passes) | inr fails ↦ fails ] in (
      list_any_none test xs (λ k d lt. rw (get_or_default_zero xs k d lt) (fails k lt)),
      position_or_len_is test xs (length xs) 0 (omega arith) fails
          (λ lt. absurd (omega arith)),
    )
first_byte_is test xs (Some k) found =
    let fails : (j : ℕ) → j < k → test (get_or xs j 0) ≡ false =
    λ j lt. elim (cases_Bool (test (get_or xs j 0))) [ inl passes ↦ absurd (found.0.before j (omega arith) lt passes) | inr fails ↦ fails ] in
    (list_any_at test xs k 0 found.0.high found.1, position_or_len_is test xs k 0 (omega (arith, found.0.high)) fails (λ _. found.1))

-- what stands before and after the first byte that passes, as slices cut it
pub behind_found : (test : ℕ → Bool) (xs : List ℕ) (k : ℕ) → IsFirstByte test xs (Some k) → take (length xs - (k + 1)) (drop (k + 1) xs) ≡ after_first test xs
behind_found test xs k found = take_rest xs (k + 1) ∙ ap (λ n. drop (n + 1) xs) (sym (first_byte_is test xs (Some k) found).1)

pub not_found : (test : ℕ → Bool) (xs : List ℕ) → IsFirstByte test xs None → (xs ≡ before_first test xs) × (after_first test xs ≡ [])
not_found test xs nowhere =
    let place : position_or_len test xs ≡ length xs = (first_byte_is test xs None nowhere).1 in
    (sym (take_all (position_or_len test xs) xs (omega (arith, place))), drop_all (position_or_len test xs + 1) xs (omega (arith, place)))
