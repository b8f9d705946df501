-- The names that begin with some digits, counted.
use Rattle.std.proofs.Common.{◌≡◌, ℕ, zero, suc, ◌+◌, ◌<◌, ◌==◌, Bool, true, false, cond, List, [], ◌∷◌, ◌++◌, length, take, map, get_or, refl, sym, ◌∙◌, ap}
use Rattle.std.proofs.Common.{subst, arith, add-one, length-append}
use Rattle.std.proofs.lemmas.Bool.Decides.{same_from_decides}
use Rattle.std.proofs.lemmas.List.{append-nil, get_or_default, nil_from_length}
use Rattle.std.proofs.lemmas.List.Elements.{filter-append}
use Rattle.std.proofs.lemmas.Slice.Eq.{bytes_eq-Decides}
use Rattle.std.specs.Char.{eq_ignore_ascii_case, to_ascii_lowercase}
use Rattle.std.specs.Cmp.Lexicographic.{pointwise}
use Rattle.std.specs.List.{filter, range_with_len}
use Rattle.std.specs.Prelude.{◌&&◌, ◌↔◌, IsTrue}
use Rattle.hex.specs.Hex.{encode_lower}
use Rattle.bf_oid.specs.declared.object.Oid.{Oid}
use Rattle.bf_names.specs.Counting.{IsSeen}
use Rattle.bf_names.specs.Names.{abbreviated, begins_with}

-- ---- digits in either case

pointwise_lowered : (xs ys : List ℕ) → pointwise eq_ignore_ascii_case xs ys ≡ pointwise ◌==◌ (map to_ascii_lowercase xs) (map to_ascii_lowercase ys)
pointwise_lowered [] [] = refl
pointwise_lowered [] (y ∷ ys) = refl
pointwise_lowered (x ∷ xs) [] = refl
pointwise_lowered (x ∷ xs) (y ∷ ys) = ap (λ same. eq_ignore_ascii_case x y && same) (pointwise_lowered xs ys)

-- a test that tells whether the front of a name and these digits are the same in lower case
pub begins_with-told : (result : Bool) (text digits : List ℕ) (name : Oid) → text ≡ encode_lower name.0
    → (IsTrue result ↔ (map to_ascii_lowercase (take (length digits) text) ≡ map to_ascii_lowercase digits)) → result ≡ begins_with digits name
begins_with-told result text digits name is test =
    let front : List ℕ = take (length digits) text in
    same_from_decides result (pointwise ◌==◌ (map to_ascii_lowercase digits) (map to_ascii_lowercase front)) (λ h. sym (test.0 h), λ e. test.1 (sym e))
    (bytes_eq-Decides (map to_ascii_lowercase digits) (map to_ascii_lowercase front))
    ∙ sym (pointwise_lowered digits front)
    ∙ ap (λ (t : List ℕ). pointwise eq_ignore_ascii_case digits (take (length digits) t)) is

-- ---- the places below a bound

-- those whose names begin with the digits
unfoldable pub begun : List Oid → List ℕ → ℕ → List ℕ
begun names digits bound = filter (λ place. begins_with digits (get_or names place (record { 0 = [] }))) (range_with_len 0 bound)

pub abbreviated-begun : (names : List Oid) (digits : List ℕ) → abbreviated names digits ≡ begun names digits (length names)
unfolding abbreviated begun
abbreviated-begun names digits = refl

range_more : (a n j : ℕ) → a + n ≡ j → range_with_len a (suc n) ≡ range_with_len a n ++ j ∷ []
range_more a zero j e = let same : a ≡ j = omega arith in ap (λ x. x ∷ []) same
range_more a (suc n) j e = ap (λ xs. a ∷ xs) (range_more (a + 1) n j (omega arith))

begun_more : (names : List Oid) (digits : List ℕ) (n : ℕ) (d : Oid) (b : Bool) → n < length names → begins_with digits (get_or names n d) ≡ b
    → begun names digits (n + 1) ≡ begun names digits n ++ cond b (n ∷ []) []
unfolding begun
begun_more names digits n d b within is =
    let test : ℕ → Bool = λ place. begins_with digits (get_or names place (record { 0 = [] })) in
    ap (λ k. filter test (range_with_len 0 k)) (add-one n) ∙ ap (filter test) (range_more 0 n n (omega arith)) ∙ filter-append test
    (range_with_len 0 n) (n ∷ [])
    ∙ ap (λ c. filter test (range_with_len 0 n) ++ cond c (n ∷ []) []) (ap (begins_with digits) (get_or_default names n (record { 0 = [] }) d within) ∙ is)

pub seen_none : (names : List Oid) (digits : List ℕ) → IsSeen (begun names digits 0) 0 0 0
unfolding begun
seen_none names digits = record { counted = refl; alone = λ h. absurd (omega arith); below = λ h. absurd (omega arith) }

pub seen_other : (names : List Oid) (digits : List ℕ) (n found count found' count' : ℕ) (d : Oid) → n < length names
    → begins_with digits (get_or names n d) ≡ false
    → found' ≡ found → count' ≡ count → IsSeen (begun names digits n) n found count → IsSeen (begun names digits (n + 1)) (n + 1) found' count'
seen_other names digits n found count found' count' d within is same as_many seen =
    let e : begun names digits (n + 1) ≡ begun names digits n = begun_more names digits n d false within is ∙ append-nil (begun names digits n) in
    record {
      counted = ap length e ∙ seen.counted ∙ sym as_many;
      alone = λ h. e ∙ seen.alone (sym as_many ∙ h) ∙ ap (λ p. p ∷ []) (sym same);
      below = λ h. let b : found < n = seen.below (omega arith) in omega arith;
    }

pub seen_begun : (names : List Oid) (digits : List ℕ) (n found count found' count' : ℕ) (d : Oid) → n < length names
    → begins_with digits (get_or names n d) ≡ true
    → found' ≡ n → count' ≡ count + 1 → IsSeen (begun names digits n) n found count → IsSeen (begun names digits (n + 1)) (n + 1) found' count'
seen_begun names digits n found count found' count' d within is same one_more seen =
    let e : begun names digits (n + 1) ≡ begun names digits n ++ n ∷ [] = begun_more names digits n d true within is in
    record {
      counted = ap length e ∙ length-append (begun names digits n) (n ∷ []) ∙ ap (λ k. k + 1) seen.counted ∙ sym one_more;
      alone = λ h. let none : count ≡ 0 = omega arith in
          e ∙ ap (λ ps. ps ++ n ∷ []) (nil_from_length (begun names digits n) (seen.counted ∙ none)) ∙ ap (λ p. p ∷ []) (sym same);
      below = λ h. omega arith;
    }

pub seen_all : (names : List Oid) (digits : List ℕ) (n found count : ℕ) → length names ≡ n → IsSeen (begun names digits n) n found count
    → IsSeen (abbreviated names digits) (length names) found count
seen_all names digits n found count e seen =
    subst (λ places. IsSeen places (length names) found count) (sym (abbreviated-begun names digits))
    (subst (λ k. IsSeen (begun names digits k) k found count) (sym e) seen)
