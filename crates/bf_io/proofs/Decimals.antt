-- What digits write, digit by digit, and that `decimal_value` reads back what a number is written as.
use Rattle.std.proofs.Common.{◌≡◌, ℕ, ◌+◌, ◌-◌, ◌*◌, ◌^◌, ◌<◌, ◌≤◌, true, false, List, [], ◌∷◌, ◌++◌, length, take, drop, get_or, Some, None, refl, sym, ap}
use Rattle.std.proofs.Common.{◌∙◌, arith, rules, ◌⊎◌, lit<}
use Rattle.std.specs.Char.{is_ascii_digit}
use Rattle.std.specs.List.{list_all}
use Rattle.std.specs.Fmt.{decimal}
use Rattle.std.proofs.lemmas.List.{take_more, take-append-drop}
use Rattle.std.proofs.lemmas.List.Folds.{list_all_at}
use Rattle.std.proofs.lemmas.Bool.Decides.{nat_tests}
use Rattle.std.proofs.lemmas.Str.Parse.{IsNumeralModel, numerals_by_fold}
use Rattle.std.proofs.lemmas.Fmt.{digits_decimal, digits_value-decimal, length-decimal-le, decimal_nonempty}
use Rattle.bf_io.specs.Decimal.{number_after, decimal_value}

pub number_after-append : (n : ℕ) (xs ys : List ℕ) → number_after n (xs ++ ys) ≡ number_after (number_after n xs) ys
number_after-append n [] ys = refl
number_after-append n (x ∷ xs) ys = number_after-append (n * 10 + (x - 48)) xs ys

pub number_after-ge : (n : ℕ) (xs : List ℕ) → n ≤ number_after n xs
number_after-ge n [] = omega arith
number_after-ge n (x ∷ xs) = omega (arith, number_after-ge (n * 10 + (x - 48)) xs)

-- one more digit
pub number_more : (xs : List ℕ) (i : ℕ) → i < length xs → number_after 0 (take (i + 1) xs) ≡ number_after 0 (take i xs) * 10 + (get_or xs i 0 - 48)
number_more xs i h = ap (number_after 0) (take_more xs i 0 h) ∙ number_after-append 0 (take i xs) (get_or xs i 0 ∷ [])

-- the digits so far and the next write no more than all do
pub number_more-le : (xs : List ℕ) (i : ℕ) → i < length xs → number_after 0 (take i xs) * 10 + (get_or xs i 0 - 48) ≤ number_after 0 xs
number_more-le xs i h =
    let front = take (i + 1) xs in
    let whole : number_after 0 xs ≡ number_after (number_after 0 front) (drop (i + 1) xs) =
    ap (number_after 0) (sym (take-append-drop (i + 1) xs)) ∙ number_after-append 0 front (drop (i + 1) xs) in
    omega (arith, number_more xs i h, whole, number_after-ge (number_after 0 front) (drop (i + 1) xs))

-- ---- where a text has a value

pub decimal_value-length : (xs : List ℕ) → (length xs ≡ 0) ⊎ (20 < length xs) → decimal_value xs ≡ None
unfolding decimal_value
decimal_value-length xs h = grind (arith, nat_tests)

pub decimal_value-not_digit : (xs : List ℕ) (i : ℕ) → i < length xs → is_ascii_digit (get_or xs i 0) ≡ false → decimal_value xs ≡ None
unfolding decimal_value
decimal_value-not_digit xs i h e =
    let some : list_all is_ascii_digit xs ≡ false = list_all_at is_ascii_digit xs i 0 h e in
    grind (arith, nat_tests)

pub decimal_value-too_large : (xs : List ℕ) → 2 ^ 64 ≤ number_after 0 xs → decimal_value xs ≡ None
unfolding decimal_value
decimal_value-too_large xs h = grind (arith, nat_tests)

pub decimal_value-is : (xs : List ℕ) (n : ℕ) → 0 < length xs → length xs ≤ 20 → list_all is_ascii_digit xs ≡ true → number_after 0 xs ≡ n → n < 2 ^ 64
    → decimal_value xs ≡ Some n
unfolding decimal_value
decimal_value-is xs n nonempty short digits value small = grind (arith, nat_tests)

-- a number is read back from what it is written as
own : IsNumeralModel (λ ds. list_all is_ascii_digit ds ≡ true) (number_after 0)
own = numerals_by_fold _ (search rules) number_after (search rules)

pub decimal_value-decimal : (n : ℕ) → n < 2 ^ 64 → decimal_value (decimal n) ≡ Some n
decimal_value-decimal n small =
    decimal_value-is (decimal n) n (decimal_nonempty n small) (length-decimal-le 20 n (lit< tt) (omega arith) small)
    (digits_decimal own n small) (digits_value-decimal own n small) small
