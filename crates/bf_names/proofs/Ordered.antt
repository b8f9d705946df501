-- Names in order: which of them begin with some digits, by where they stand.
use Rattle.std.proofs.Common.{◌≡◌, ℕ, zero, suc, ◌+◌, ◌≤◌, Bool, true, false, cond, List, [], ◌∷◌, length, take, get_or, refl, ◌∙◌, ap}
use Rattle.std.proofs.Common.{arith}
use Rattle.std.proofs.lemmas.Cmp.{nat_list_cmp_total}
use Rattle.std.proofs.lemmas.List.Sorted.{searchable_from_sorted}
use Rattle.std.proofs.lemmas.List.Sums.{sum_by-cons}
use Rattle.std.specs.Cmp.Lexicographic.{slice_cmp}
use Rattle.std.specs.List.{AllWithin, count_by}
use Rattle.std.specs.List.Sorted.{IsNonDecreasingBy, IsPartitionedBy}
use Rattle.std.specs.Ordering.{is_lt, is_le, nat_cmp, ordering_index, ordering_then}
use Rattle.std.specs.declared.cmp.Ordering.{Ordering}
use Rattle.std.specs.declared.cmp.Ordering.TheVariants.{Less, Equal, Greater}
use Rattle.bf_names.specs.declared.order.Spelled.{Spelled}
use Rattle.bf_names.specs.Order.{Ascend, compared}

-- ---- the fronts of lists in order are in order

front_step : (o : Ordering) (a b : Ordering) → (is_lt a ≡ false → is_lt b ≡ false) → is_lt (ordering_then o a) ≡ false → is_lt (ordering_then o b) ≡ false
front_step Less a b f h = h
front_step Equal a b f h = f h
front_step Greater a b f h = h

pub front_in_order : (n : ℕ) (xs ys : List ℕ) → is_lt (slice_cmp nat_cmp xs ys) ≡ false → is_lt (slice_cmp nat_cmp (take n xs) (take n ys)) ≡ false
front_in_order zero xs ys h = refl
front_in_order (suc n) [] [] h = refl
front_in_order (suc n) [] (y ∷ ys) h = cc
front_in_order (suc n) (x ∷ xs) [] h = refl
front_in_order (suc n) (x ∷ xs) (y ∷ ys) h =
    front_step (nat_cmp x y) (slice_cmp nat_cmp xs ys) (slice_cmp nat_cmp (take n xs) (take n ys)) (front_in_order n xs ys) h

-- so names in order go from those before some digits to those that begin with them, and on to those after
pub rises : (digits : List ℕ) (order : List Spelled) → Ascend order → IsNonDecreasingBy (λ name. ordering_index (compared digits name)) order
rises digits order up =
    searchable_from_sorted nat_list_cmp_total (λ (name : Spelled). take (length digits) name.digits) order digits
    (λ k d low high. front_in_order (length digits) (get_or order (k + 1) d).digits (get_or order k d).digits (up k d low high))

less_index : (o : Ordering) → is_lt o ≡ true → ordering_index o ≡ 0
less_index Less h = refl
less_index Equal h = cc
less_index Greater h = cc

index_less : (o : Ordering) → ordering_index o ≤ 0 → is_lt o ≡ true
index_less Less h = refl
index_less Equal h = absurd (omega arith)
index_less Greater h = absurd (omega arith)

most_index : (o : Ordering) → is_le o ≡ true → ordering_index o ≤ 1
most_index Less h = omega arith
most_index Equal h = omega arith
most_index Greater h = cc

index_most : (o : Ordering) → ordering_index o ≤ 1 → is_le o ≡ true
index_most Less h = refl
index_most Equal h = refl
index_most Greater h = absurd (omega arith)

pub parted_before : (digits : List ℕ) (order : List Spelled) → Ascend order → IsPartitionedBy (λ name. is_lt (compared digits name)) order
parted_before digits order up = λ i j d l m h.
    let last : ordering_index (compared digits (get_or order j d)) ≡ 0 = less_index (compared digits (get_or order j d)) h in
    index_less (compared digits (get_or order i d)) (omega (arith, rises digits order up i j d l m, last))

pub parted_up_to : (digits : List ℕ) (order : List Spelled) → Ascend order → IsPartitionedBy (λ name. is_le (compared digits name)) order
parted_up_to digits order up = λ i j d l m h.
    index_most (compared digits (get_or order i d))
    (omega (arith, rises digits order up i j d l m, most_index (compared digits (get_or order j d)) h))

-- ---- those between are counted

counted : {X : Type 0} (test : X → Bool) (x : X) (xs : List X) (b : Bool) → test x ≡ b → count_by test (x ∷ xs) ≡ cond b 1 0 + count_by test xs
counted test x xs b e = sum_by-cons (λ y. cond (test y) 1 0) x xs ∙ ap (λ (v : Bool). cond v 1 0 + count_by test xs) e

none_pass : {X : Type 0} (test : X → Bool) (xs : List X) → AllWithin (λ x. test x ≡ false) xs 0 (length xs) → count_by test xs ≡ 0
none_pass test [] h = refl
none_pass test (x ∷ xs) h =
    omega (arith, counted test x xs false (h 0 x (omega arith) (omega arith)), none_pass test xs (λ k d l m. h (suc k) d (omega arith) (omega (arith, m))))

first_pass : {X : Type 0} (test : X → Bool) (xs : List X) (end : ℕ) → end ≤ length xs → AllWithin (λ x. test x ≡ true) xs 0 end
    → AllWithin (λ x. test x ≡ false) xs end (length xs) → count_by test xs ≡ end
first_pass test xs zero l within past = none_pass test xs past
first_pass test [] (suc end) l within past = absurd (omega (arith, l))
first_pass test (x ∷ xs) (suc end) l within past =
    omega (
      arith,
      counted test x xs true (within 0 x (omega arith) (omega arith)),
      first_pass test xs end (omega (arith, l)) (λ k d l m. within (suc k) d (omega arith) (omega (arith, m)))
          (λ k d l m. past (suc k) d (omega (arith, l)) (omega (arith, m))),
    )

pub some_pass : {X : Type 0} (test : X → Bool) (xs : List X) (first end : ℕ) → first ≤ end → end ≤ length xs
    → AllWithin (λ x. test x ≡ false) xs 0 first → AllWithin (λ x. test x ≡ true) xs first end
    → AllWithin (λ x. test x ≡ false) xs end (length xs)
    → count_by test xs + first ≡ end
some_pass test xs zero end o l before within past = omega (arith, first_pass test xs end l within past)
some_pass test [] (suc first) end o l before within past = absurd (omega (arith, o, l))
some_pass test (x ∷ xs) (suc first) zero o l before within past = absurd (omega (arith, o))
some_pass test (x ∷ xs) (suc first) (suc end) o l before within past =
    omega (
      arith,
      counted test x xs false (before 0 x (omega arith) (omega arith)),
      some_pass test xs first end (omega (arith, o)) (omega (arith, l)) (λ k d l m. before (suc k) d (omega arith) (omega (arith, m)))
          (λ k d l m. within (suc k) d (omega (arith, l)) (omega (arith, m)))
          (λ k d l m. past (suc k) d (omega (arith, l)) (omega (arith, m))),
    )
