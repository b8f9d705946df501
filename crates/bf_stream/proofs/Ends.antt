-- Where a line ends in a list of bytes.
use Rattle.std.proofs.Common.{◌≡◌, ℕ, suc, ◌+◌, ◌-◌, ◌<◌, ◌≤◌, true, false, List, [], ◌∷◌, ◌++◌, length, take, drop, get_or, count_by, Option, Some, None}
use Rattle.std.proofs.Common.{MatchOption, refl, sym, ap, ◌∙◌, arith, cond, inl, inr, length-drop, not}
use Rattle.std.specs.List.{position_or_len}
use Rattle.std.proofs.lemmas.Bool.{cases_lt, false_from_ne_true, cases_Bool, false≢true, cond-true, cond-false, ne_eqb, eq-eqb, not_from_true, not_from_false}
use Rattle.std.proofs.lemmas.List.{take_rest, get_or-drop, length-take, length-take-le, take-append-le, drop-take, drop-drop, drop_all}
use Rattle.std.proofs.lemmas.List.Folds.{list_any_none, list_any_at, prefix_len-append}
use Rattle.std.proofs.lemmas.List.Elements.{All-from_get_or}
use Rattle.std.proofs.lemmas.List.Sums.{position_or_len_is, fails_before_first, passes_at_first, prefix_len-le-length, sum_by-cons, count_by_more_yes}
use Rattle.memchr.specs.Find.{IsFirstByte, is_byte}
use Rattle.bf_grammar.specs.Place.{is_end_of_line}
use Rattle.bf_grammar.specs.Lines.{front_line, has_end_of_line}

abbrev pub end_at : List ℕ → ℕ
end_at bytes = position_or_len is_end_of_line bytes

pub end_at-le : (bytes : List ℕ) → end_at bytes ≤ length bytes
end_at-le bytes = prefix_len-le-length (λ x. not (is_end_of_line x)) bytes

-- a place where the end of the line is
pub end_at-here : (bytes : List ℕ) (known : ℕ) → known ≤ end_at bytes → known < length bytes → is_end_of_line (get_or bytes known 0) ≡ true
    → known ≡ end_at bytes
end_at-here bytes known le lt is =
    sym (position_or_len_is is_end_of_line bytes known 0 (omega arith) (λ k below. fails_before_first is_end_of_line bytes k 0 (omega arith)) (λ lt. is))

-- what a search from a place on says of the whole
pub end_at-found : (bytes : List ℕ) (known : ℕ) (r : Option ℕ) → known ≤ end_at bytes
    → IsFirstByte (is_byte 10) (take (length bytes - known) (drop known bytes)) r
    → MatchOption r (length bytes ≡ end_at bytes) (λ at. known + at ≡ end_at bytes)
end_at-found bytes known None le h =
    let rest = take_rest bytes known in
    let none : IsFirstByte (is_byte 10) (drop known bytes) None = rw rest at h in
    let short : end_at bytes ≤ length bytes = end_at-le bytes in
    sym (position_or_len_is is_end_of_line bytes (length bytes) 0 (omega arith)
    (λ k lt. elim (cases_lt k known) [
      | inl low ↦ fails_before_first is_end_of_line bytes k 0 (omega arith)
      | inr high ↦
          let at : known + (k - known) ≡ k = omega arith in
          let same : get_or (drop known bytes) (k - known) 0 ≡ get_or bytes k 0 = get_or-drop known bytes (k - known) 0 ∙ ap (λ n. get_or bytes n 0) at in
          false_from_ne_true _ (λ t. none (k - known) (omega arith) (omega (arith, length-drop known bytes)) (ap is_end_of_line same ∙ t))
    ])
    (λ lt. absurd (omega arith)))
end_at-found bytes known (Some i) le h =
    let rest = take_rest bytes known in
    let some : IsFirstByte (is_byte 10) (drop known bytes) (Some i) = rw rest at h in
    let low = some.0.low in
    let high = some.0.high in
    let size = length-drop known bytes in
    sym (position_or_len_is is_end_of_line bytes (known + i) 0 (omega arith)
    (λ k lt. elim (cases_lt k known) [
      | inl below ↦ fails_before_first is_end_of_line bytes k 0 (omega arith)
      | inr above ↦
          let at : known + (k - known) ≡ k = omega arith in
          let same : get_or (drop known bytes) (k - known) 0 ≡ get_or bytes k 0 = get_or-drop known bytes (k - known) 0 ∙ ap (λ n. get_or bytes n 0) at in
          false_from_ne_true _ (λ t. some.0.before (k - known) (omega arith) (omega arith) (ap is_end_of_line same ∙ t))
    ])
    (λ lt. sym (ap is_end_of_line (get_or-drop known bytes i 0)) ∙ some.1))

pub end_at-lt : (bytes : List ℕ) → has_end_of_line bytes ≡ true → end_at bytes < length bytes
end_at-lt bytes has =
    elim (cases_lt (end_at bytes) (length bytes)) [
      | inl lt ↦ lt
      | inr le ↦ absurd (false≢true (sym (lacks-none bytes le) ∙ has))
    ]
  where
    lacks-none : (xs : List ℕ) → length xs ≤ end_at xs → has_end_of_line xs ≡ false
    lacks-none xs le = list_any_none is_end_of_line xs
        (All-from_get_or (λ x. is_end_of_line x ≡ false) xs 0 (λ k lt. fails_before_first is_end_of_line xs k 0 (omega arith)))

pub has-from_lt : (bytes : List ℕ) → end_at bytes < length bytes → has_end_of_line bytes ≡ true
has-from_lt bytes lt = list_any_at is_end_of_line bytes (end_at bytes) 0 lt (passes_at_first is_end_of_line bytes 0 lt)

pub lacks-from_end : (bytes : List ℕ) → end_at bytes ≡ length bytes → has_end_of_line bytes ≡ false
lacks-from_end bytes e = false_from_ne_true _ (λ t. absurd (omega (arith, end_at-lt bytes t)))

pub end_at-append_lt : (xs ys : List ℕ) → end_at xs < length xs → end_at (xs ++ ys) ≡ end_at xs
end_at-append_lt xs ys lt =
    prefix_len-append (λ x. not (is_end_of_line x)) xs ys ∙ cond-false _ _ _ (ne_eqb (end_at xs) (length xs) (λ e. omega arith))

pub end_at-append_all : (xs ys : List ℕ) → end_at xs ≡ length xs → end_at (xs ++ ys) ≡ length xs + end_at ys
end_at-append_all xs ys e =
    prefix_len-append (λ x. not (is_end_of_line x)) xs ys ∙ cond-true _ _ _ (eq-eqb _ _ e)

pub length-front_line : (bytes : List ℕ) → length (front_line bytes) ≡ end_at bytes
length-front_line bytes = length-take-le _ _ (end_at-le bytes)

pub front_line-append : (xs ys : List ℕ) → end_at xs < length xs → front_line (xs ++ ys) ≡ front_line xs
front_line-append xs ys lt =
    ap (λ n. take n (xs ++ ys)) (end_at-append_lt xs ys lt) ∙ take-append-le _ xs ys (omega arith)

pub count-front_line : (bytes : List ℕ) → count_by is_end_of_line (take (end_at bytes) bytes) ≡ 0
count-front_line [] = refl
count-front_line (x ∷ xs) =
    let here : end_at (x ∷ xs) ≡ cond (not (is_end_of_line x)) (1 + end_at xs) 0 = refl in
    elim (cases_Bool (is_end_of_line x)) [
      | inl ends ↦
          let none : end_at (x ∷ xs) ≡ 0 = here ∙ cond-false _ _ _ (not_from_true _ ends) in
          ap (λ n. count_by is_end_of_line (take n (x ∷ xs))) none
      | inr goes ↦
          let more : end_at (x ∷ xs) ≡ suc (end_at xs) = here ∙ cond-true _ _ _ (not_from_false _ goes) ∙ omega arith in
          ap (λ n. count_by is_end_of_line (take n (x ∷ xs))) more
          ∙ sum_by-cons (λ y. cond (is_end_of_line y) 1 0) x (take (end_at xs) xs)
          ∙ ap (λ n. n + count_by is_end_of_line (take (end_at xs) xs)) (cond-false (is_end_of_line x) 1 0 goes)
          ∙ ap (λ n. 0 + n) (count-front_line xs)
    ]

pub count-line : (bytes : List ℕ) → end_at bytes < length bytes → count_by is_end_of_line (take (end_at bytes + 1) bytes) ≡ 1
count-line bytes lt = count_by_more_yes is_end_of_line bytes (end_at bytes) 0 lt (passes_at_first is_end_of_line bytes 0 lt) ∙ ap (λ n. n + 1)
    (count-front_line bytes)

-- a part of a part
pub drop-part : (n m s : ℕ) (xs : List ℕ) → drop n (take m (drop s xs)) ≡ take (m - n) (drop (s + n) xs)
drop-part n m s xs =
    elim (cases_lt n m) [
      | inl lt ↦
          let sum : m ≡ n + (m - n) = omega arith in
          ap (λ k. drop n (take k (drop s xs))) sum ∙ drop-take n (m - n) (drop s xs) ∙ ap (take (m - n)) (drop-drop n s xs)
      | inr le ↦
          let none : m - n ≡ 0 = omega arith in
          drop_all n (take m (drop s xs)) (omega (arith, length-take m (drop s xs))) ∙ sym (ap (λ k. take k (drop (s + n) xs)) none)
    ]
