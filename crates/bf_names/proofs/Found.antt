-- What a search by halves finds of the names that begin with some digits.
use Rattle.std.proofs.Common.{◌≡◌, ℕ, zero, suc, ◌+◌, ◌-◌, ◌/◌, ◌%◌, ◌<◌, ◌≤◌, Bool, true, false, cond, List, [], ◌∷◌, ◌++◌, length, take, map, get_or, refl, sym, ◌∙◌, ap}
use Rattle.std.proofs.Common.{subst, arith, ⊎_elim}
use Rattle.std.proofs.lemmas.Bool.{cases_Bool, cases_lt, cond-true, cond-false}
use Rattle.std.proofs.lemmas.Cmp.{ranked, by_ranked}
use Rattle.std.proofs.lemmas.List.{length-map, nil_from_length, get_or_default}
use Rattle.std.proofs.lemmas.List.Elements.{Contains-get_or}
use Rattle.std.proofs.lemmas.List.FromFn.{length-map-range_with_len, map-range_with_len_more, get_or-map-range_with_len, length-range_with_len, get_or-range_with_len}
use Rattle.std.proofs.lemmas.List.Sorted.{Contains-permutation, IsPermutation-sym, sum_by-IsPermutation}
use Rattle.std.proofs.lemmas.List.Sums.{sum_by-cons, length-filter}
use Rattle.std.specs.Char.{to_ascii_lowercase}
use Rattle.std.specs.Cmp.Lexicographic.{slice_cmp}
use Rattle.std.specs.List.{slice_index, AllByRecursion, Contains, count_by, filter, range_with_len}
use Rattle.std.specs.Ordering.{is_lt, is_le, is_eq, nat_cmp, ordering_then}
use Rattle.std.specs.declared.cmp.Ordering.{Ordering}
use Rattle.std.specs.declared.cmp.Ordering.TheVariants.{Less, Equal, Greater}
use Rattle.std.specs.Prelude.{IsTrue}
use Rattle.hex.specs.Hex.{encode_lower, encode_with, lower_digits}
use Rattle.bf_oid.specs.declared.object.Oid.{Oid}
use Rattle.bf_names.specs.declared.order.Spelled.{Spelled}
use Rattle.bf_names.specs.Counting.{IsSeen}
use Rattle.bf_names.specs.Names.{abbreviated, begins_with}
use Rattle.bf_names.specs.Order.{Ascend, ComeBefore, ComeBeforeOrBegin, IsOrderOf, compared, lowered, spelled, spelled_as}
use Rattle.bf_names.proofs.Abbreviating.{begins_with-told}
use Rattle.bf_names.proofs.Ordered.{some_pass}

-- ---- a name in digits is in lower case

kept_at : (table : List ℕ) → AllByRecursion (λ c. to_ascii_lowercase c ≡ c) table → (i : ℕ) → to_ascii_lowercase (slice_index table i) ≡ slice_index table i
kept_at [] all i = refl
kept_at (c ∷ table) all zero = all.0
kept_at (c ∷ table) all (suc i) = kept_at table all.1 i

digit_kept : (i : ℕ) → to_ascii_lowercase (slice_index lower_digits i) ≡ slice_index lower_digits i
digit_kept i = kept_at lower_digits
    (refl, (refl, (refl, (refl, (refl, (refl, (refl, (refl, (refl, (refl, (refl, (refl, (refl, (refl, (refl, (refl, tt)))))))))))))))) i

front_kept : (n : ℕ) (bytes : List ℕ) → map to_ascii_lowercase (take n (encode_lower bytes)) ≡ take n (encode_lower bytes)
unfolding encode_with
front_kept zero bytes = refl
front_kept (suc n) [] = refl
front_kept (suc zero) (byte ∷ bytes) = ap (λ (c : ℕ). c ∷ []) (digit_kept (byte / 16))
front_kept (suc (suc n)) (byte ∷ bytes) = λ i. digit_kept (byte / 16) i ∷ digit_kept (byte % 16) i ∷ front_kept n bytes i

-- ---- lists that compare as equal are the same

then_equal : (o a : Ordering) → is_eq (ordering_then o a) ≡ true → (o ≡ Equal) × (is_eq a ≡ true)
then_equal Less a h = cc
then_equal Equal a h = (refl, h)
then_equal Greater a h = cc

same_number : (x y : ℕ) → nat_cmp x y ≡ Equal → x ≡ y
same_number x y h = by_ranked (x < y) (x ≡ y) (y < x) (nat_cmp x y) (ranked x y (nat_cmp x y) refl) (λ e p. cc) (λ e p. p) (λ e p. cc)

same_list : (xs ys : List ℕ) → is_eq (slice_cmp nat_cmp xs ys) ≡ true → xs ≡ ys
same_list [] [] h = refl
same_list [] (y ∷ ys) h = cc
same_list (x ∷ xs) [] h = cc
same_list (x ∷ xs) (y ∷ ys) h =
    let both = then_equal (nat_cmp x y) (slice_cmp nat_cmp xs ys) h in
    λ i. same_number x y both.0 i ∷ same_list xs ys both.1 i

number_itself : (x : ℕ) → nat_cmp x x ≡ Equal
number_itself x = by_ranked (x < x) (x ≡ x) (x < x) (nat_cmp x x) (ranked x x (nat_cmp x x) refl) (λ e p. absurd (omega (arith, p))) (λ e p. e) (λ e p. absurd (omega (arith, p)))

list_itself : (xs : List ℕ) → is_eq (slice_cmp nat_cmp xs xs) ≡ true
list_itself [] = refl
list_itself (x ∷ xs) = ap (λ (o : Ordering). is_eq (ordering_then o (slice_cmp nat_cmp xs xs))) (number_itself x) ∙ list_itself xs

-- ---- the names that begin with some digits are those that compare as equal

abbrev front_is : List ℕ → Spelled → Bool
front_is low name = is_eq (compared low name)

begins_same : (digits : List ℕ) (name : Oid) (place : ℕ) → front_is (lowered digits) (spelled_as name place) ≡ begins_with digits name
begins_same digits name place = begins_with-told _ (encode_lower name.0) digits name refl (to, from)
  where
    front : List ℕ
    front = take (length digits) (encode_lower name.0)

    as_long : take (length (lowered digits)) (encode_lower name.0) ≡ front
    as_long = ap (λ (n : ℕ). take n (encode_lower name.0)) (length-map digits to_ascii_lowercase)

    to : IsTrue (front_is (lowered digits) (spelled_as name place)) → map to_ascii_lowercase front ≡ map to_ascii_lowercase digits
    to h = front_kept (length digits) name.0 ∙ sym as_long ∙ same_list (take (length (lowered digits)) (encode_lower name.0)) (lowered digits) h

    from : map to_ascii_lowercase front ≡ map to_ascii_lowercase digits → IsTrue (front_is (lowered digits) (spelled_as name place))
    from e = ap (λ (xs : List ℕ). is_eq (slice_cmp nat_cmp xs (lowered digits))) (as_long ∙ sym (front_kept (length digits) name.0) ∙ e)
        ∙ list_itself (lowered digits)

-- ---- how many there are

abbrev name_at : List Oid → ℕ → Oid
name_at names place = get_or names place (record { 0 = [] })

count_map : {X Y : Type 0} (test : Y → Bool) (f : X → Y) (xs : List X) → count_by test (map f xs) ≡ count_by (λ x. test (f x)) xs
count_map test f [] = refl
count_map test f (x ∷ xs) =
    sum_by-cons (λ y. cond (test y) 1 0) (f x) (map f xs) ∙ ap (λ (n : ℕ). cond (test (f x)) 1 0 + n) (count_map test f xs)
    ∙ sym (sum_by-cons (λ y. cond (test (f y)) 1 0) x xs)

as_many : (names : List Oid) (digits : List ℕ) (order : List Spelled) → IsOrderOf names order
    → length (abbreviated names digits) ≡ count_by (front_is (lowered digits)) order
unfolding abbreviated
as_many names digits order is =
    let places : List ℕ = range_with_len 0 (length names) in
    length-filter (λ place. begins_with digits (name_at names place)) places
    ∙ sym (λ i. count_by (λ place. begins_same digits (name_at names place) place i) places)
    ∙ sym (count_map (front_is (lowered digits)) (λ place. spelled_as (name_at names place) place) places)
    ∙ sym (sum_by-IsPermutation (λ name. cond (front_is (lowered digits) name) 1 0) (spelled names) order is.all)

-- ---- where they stand

less_passes : (o : Ordering) → is_lt o ≡ true → is_le o ≡ true
less_passes Less h = refl
less_passes Equal h = cc
less_passes Greater h = cc

less_not_equal : (o : Ordering) → is_lt o ≡ true → is_eq o ≡ false
less_not_equal Less h = refl
less_not_equal Equal h = cc
less_not_equal Greater h = cc

neither_is_equal : (o : Ordering) → is_lt o ≡ false → is_le o ≡ true → is_eq o ≡ true
neither_is_equal Less h g = cc
neither_is_equal Equal h g = refl
neither_is_equal Greater h g = cc

more_not_equal : (o : Ordering) → is_le o ≡ false → is_eq o ≡ false
more_not_equal Less h = cc
more_not_equal Equal h = cc
more_not_equal Greater h = refl

-- the ends that a search by halves finds
pub record AreEnds (low : List ℕ) (order : List Spelled) (first end : ℕ) : Type 0 where
  pub first_within : first ≤ length order
  pub end_within : end ≤ length order
  pub before : ComeBefore low order first
  pub up_to : ComeBeforeOrBegin low order end

pub ends_in_order : (low : List ℕ) (order : List Spelled) (first end : ℕ) → AreEnds low order first end → first ≤ end
ends_in_order low order first end ends = ⊎_elim (λ h. absurd (apart h)) (λ h. omega (arith, h)) (cases_lt end first)
  where
    apart : end < first → ⊥
    apart h =
        let name : Spelled = get_or order end (record { digits = []; place = 0 }) in
        let less : is_lt (compared low name) ≡ true = ends.before.0 end (record { digits = []; place = 0 }) (omega arith) h in
        let more : is_le (compared low name) ≡ false = ends.up_to.1 end (record { digits = []; place = 0 }) (omega arith) (omega (arith, h, ends.first_within)) in
        clash (sym (less_passes (compared low name) less) ∙ more)
      where
        clash : true ≡ false → ⊥
        clash e = cc

count_is : (low : List ℕ) (order : List Spelled) (first end : ℕ) → AreEnds low order first end → count_by (front_is low) order + first ≡ end
count_is low order first end ends =
    some_pass (front_is low) order first end (ends_in_order low order first end ends) ends.end_within
    (λ k d l m. less_not_equal (compared low (get_or order k d)) (ends.before.0 k d l m))
    (λ k d l m. neither_is_equal (compared low (get_or order k d)) (ends.before.1 k d l (omega (arith, m, ends.end_within)))
    (ends.up_to.0 k d (omega arith) m))
    (λ k d l m. more_not_equal (compared low (get_or order k d)) (ends.up_to.1 k d l m))

pub ends_of : {low text : List ℕ} {order xs ys : List Spelled} {first end : ℕ} → text ≡ low → xs ≡ order → ys ≡ order → Ascend order
    → first ≤ length xs → (Ascend xs → ComeBefore text xs first) → end ≤ length ys → (Ascend ys → ComeBeforeOrBegin text ys end)
    → AreEnds low order first end
ends_of {low} {text} {order} {xs} {ys} {first} {end} l x y up first_in first_is end_in end_is = record {
  first_within = omega (arith, first_in, ap length x);
  end_within = omega (arith, end_in, ap length y);
  before = subst (λ (t : List ℕ). ComeBefore t order first) l
      (subst (λ (zs : List Spelled). Ascend zs → ComeBefore text zs first) x first_is up);
  up_to = subst (λ (t : List ℕ). ComeBeforeOrBegin t order end) l
      (subst (λ (zs : List Spelled). Ascend zs → ComeBeforeOrBegin text zs end) y end_is up);
}

-- ---- one alone

contains_filter : (test : ℕ → Bool) (xs : List ℕ) (x : ℕ) → Contains xs x → test x ≡ true → Contains (filter test xs) x
contains_filter test [] x c t = absurd (omega (arith, c.1))
contains_filter test (y ∷ xs) x (zero, l, e) t =
    let here : filter test (y ∷ xs) ≡ y ∷ filter test xs = cond-true (test y) (y ∷ filter test xs) (filter test xs) (ap test e ∙ t) in
    subst (λ (zs : List ℕ). Contains zs x) (sym here) (0, omega arith, e)
contains_filter test (y ∷ xs) x (suc k, l, e) t =
    let rest : Contains (filter test xs) x = contains_filter test xs x (k, omega (arith, l), e) t in
    ⊎_elim
    (λ passes. subst (λ (zs : List ℕ). Contains zs x) (sym (cond-true (test y) (y ∷ filter test xs) (filter test xs) passes))
    (suc rest.0, omega (arith, rest.1), rest.2))
    (λ fails. subst (λ (zs : List ℕ). Contains zs x) (sym (cond-false (test y) (y ∷ filter test xs) (filter test xs) fails)) rest)
    (cases_Bool (test y))

alone : (xs : List ℕ) (x : ℕ) → Contains xs x → length xs ≡ 1 → xs ≡ x ∷ []
alone [] x c h = absurd (omega (arith, h))
alone (y ∷ xs) x (zero, l, e) h = λ i. e i ∷ nil_from_length xs (omega (arith, h)) i
alone (y ∷ xs) x (suc k, l, e) h = absurd (omega (arith, l, h))

-- a name in the order is the name of the commit at its place
pub record IsName (names : List Oid) (name : Spelled) : Type 0 where
  pub within : name.place < length names
  pub is : name ≡ spelled_as (name_at names name.place) name.place

pub is_name : (names : List Oid) (order : List Spelled) (k : ℕ) (d : Spelled) → IsOrderOf names order → k < length order → IsName names (get_or order k d)
is_name names order k d is l = record {
  within = subst (λ (p : ℕ). p < length names) (sym place) here;
  is = whole ∙ ap spell (sym place);
}
  where
    name : Spelled
    name = get_or order k d

    spell : ℕ → Spelled
    spell place = spelled_as (name_at names place) place

    among : Contains (spelled names) name
    among = Contains-permutation order (spelled names) name (IsPermutation-sym (spelled names) order is.all) (Contains-get_or order k d l)

    here : among.0 < length names
    here = omega (arith, among.1, length-map-range_with_len spell 0 (length names))

    whole : name ≡ spell among.0
    whole = sym among.2 ∙ get_or-map-range_with_len spell 0 (length names) among.0 among.0 name here (omega arith)

    place : name.place ≡ among.0
    place = ap (λ (n : Spelled). n.place) whole

-- ---- what was seen

pub seen_between : (digits : List ℕ) (order : List Spelled) (first end : ℕ) (d : Spelled) (names : List Oid) → AreEnds (lowered digits) order first end → first < end
    → IsOrderOf names order → IsSeen (abbreviated names digits) (length names) (get_or order first d).place (end - first)
unfolding abbreviated
seen_between digits order first end d names ends some is = record {
  counted = count;
  alone = λ one. alone (abbreviated names digits) name.place among (count ∙ one);
  below = λ h. known.within;
}
  where
    name : Spelled
    name = get_or order first d

    count : length (abbreviated names digits) ≡ end - first
    count = omega (arith, as_many names digits order is, count_is (lowered digits) order first end ends)

    known : IsName names name
    known = is_name names order first d is (omega (arith, some, ends.end_within))

    begins : begins_with digits (name_at names name.place) ≡ true
    begins = sym (begins_same digits (name_at names name.place) name.place) ∙ ap (front_is (lowered digits)) (sym known.is)
        ∙ neither_is_equal (compared (lowered digits) name) (ends.before.1 first d (omega arith) (omega (arith, some, ends.end_within)))
        (ends.up_to.0 first d (omega arith) some)

    among : Contains (abbreviated names digits) name.place
    among = contains_filter (λ place. begins_with digits (name_at names place)) (range_with_len 0 (length names)) name.place (
      name.place,
      omega (arith, known.within, length-range_with_len 0 (length names)),
      get_or-range_with_len 0 (length names) name.place name.place known.within ∙ omega arith,
    ) begins

pub seen_nowhere : (digits : List ℕ) (order : List Spelled) (first end : ℕ) (names : List Oid) → AreEnds (lowered digits) order first end → end ≤ first
    → IsOrderOf names order → IsSeen (abbreviated names digits) (length names) 0 0
seen_nowhere digits order first end names ends none is = record {
  counted = omega (arith, as_many names digits order is, count_is (lowered digits) order first end ends, none);
  alone = λ h. absurd (omega (arith, h));
  below = λ h. absurd (omega (arith, h));
}

-- ---- the names in digits, one after another

pub spelled_more : (names : List Oid) (n : ℕ) (d : Oid) (xs ys : List Spelled) (name : Spelled) → n < length names
    → xs ≡ map (λ place. spelled_as (name_at names place) place) (range_with_len 0 n) → name ≡ spelled_as (get_or names n d) n → ys ≡ xs ++ name ∷ []
    → ys ≡ map (λ place. spelled_as (name_at names place) place) (range_with_len 0 (n + 1))
spelled_more names n d xs ys name within before is more =
    more
    ∙ (λ i. before i ++ (is ∙ ap (λ (o : Oid). spelled_as o n) (get_or_default names n d (record { 0 = [] }) within)) i ∷ [])
    ∙ sym (map-range_with_len_more (λ place. spelled_as (name_at names place) place) 0 n n (omega arith))

pub as_long : (names : List Oid) (n : ℕ) (xs : List Spelled) → xs ≡ map (λ place. spelled_as (name_at names place) place) (range_with_len 0 n) → length xs ≡ n
as_long names n xs is = ap length is ∙ length-map-range_with_len (λ place. spelled_as (name_at names place) place) 0 n

pub spelled_all : (names : List Oid) (n : ℕ) (xs : List Spelled) → n ≡ length names
    → xs ≡ map (λ place. spelled_as (name_at names place) place) (range_with_len 0 n) → xs ≡ spelled names
spelled_all names n xs all is = is ∙ ap (λ (k : ℕ). map (λ place. spelled_as (name_at names place) place) (range_with_len 0 k)) all
