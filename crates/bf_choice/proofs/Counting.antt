-- Lemmas on counting.
use Rattle.std.proofs.Common.{◌≡◌, ℕ, zero, suc, ◌+◌, ◌-◌, ◌<◌, ◌≤◌, Bool, true, false, cond, ◌&&◌, ◌||◌, ◌==◌, refl, ap, sym, ◌∙◌, ⊎_elim, eq-eqb, arith}
use Rattle.std.proofs.lemmas.Bool.{cases_Bool, cases_eq, cases_order, ne_eqb}
use Rattle.std.proofs.lemmas.List.Sums.{sum_by-cons}
use Rattle.std.specs.List.{count_by, range_with_len}
use Rattle.bf_choice.specs.Counted.{count_below}

pub count_below-yes : (f : ℕ → Bool) (n : ℕ) → f n ≡ true → count_below f (suc n) ≡ count_below f n + 1
unfolding count_below
count_below-yes f n h = ap (λ (b : Bool). count_below f n + cond b 1 0) h

pub count_below-no : (f : ℕ → Bool) (n : ℕ) → f n ≡ false → count_below f (suc n) ≡ count_below f n
unfolding count_below
count_below-no f n h = ap (λ (b : Bool). count_below f n + cond b 1 0) h ∙ (omega arith)

pub count_below-zero : (f : ℕ → Bool) → count_below f 0 ≡ 0
unfolding count_below
count_below-zero f = refl

bit_le : (b : Bool) → cond b 1 0 ≤ 1
bit_le true = omega arith
bit_le false = omega arith

pub count_below-le : (f : ℕ → Bool) (n : ℕ) → count_below f n ≤ n
unfolding count_below
count_below-le f zero = omega arith
count_below-le f (suc n) = let one : cond (f n) 1 0 ≤ 1 = bit_le (f n) in omega (arith, count_below-le f n)

pub count_below-at : (f : ℕ → Bool) (x y : ℕ) → x ≡ y → count_below f x ≡ count_below f y
count_below-at f x y e = ap (count_below f) e

-- more numbers, no fewer that pass
pub count_below-mono : (f : ℕ → Bool) (m k : ℕ) → count_below f m ≤ count_below f (m + k)
unfolding count_below
count_below-mono f m zero = omega (arith, count_below-at f (m + 0) m (omega arith))
count_below-mono f m (suc k) =
    let next : count_below f (m + suc k) ≡ count_below f (suc (m + k)) = count_below-at f (m + suc k) (suc (m + k)) (omega arith) in
    omega (arith, count_below-mono f m k)

pub count_below-strict : (f : ℕ → Bool) (m n : ℕ) → m < n → f m ≡ true → count_below f m < count_below f n
count_below-strict f m n l h =
    let gap : ℕ = n - suc m in
    let is : suc m + gap ≡ n = omega arith in
    let step : count_below f (suc m) ≡ count_below f m + 1 = count_below-yes f m h in
    let up : count_below f (suc m) ≤ count_below f (suc m + gap) = count_below-mono f (suc m) gap in
    let end : count_below f (suc m + gap) ≡ count_below f n = ap (count_below f) is in
    omega arith

-- two that pass have different counts before them
pub count_below-injective : (f : ℕ → Bool) (m n : ℕ) → f m ≡ true → f n ≡ true → count_below f m ≡ count_below f n → m ≡ n
count_below-injective f m n hm hn e =
    ⊎_elim (λ is. is)
    (λ o. ⊎_elim
    (λ l. absurd (omega (arith, count_below-strict f m n l hm)))
    (λ l. absurd (omega (arith, count_below-strict f n m l hn)))
    o)
    (cases_order m n)

-- none passes from here on
pub count_below-past : (f : ℕ → Bool) (m k : ℕ) → ((q : ℕ) → m ≤ q → f q ≡ false) → count_below f (m + k) ≡ count_below f m
count_below-past f m zero h = count_below-at f (m + 0) m (omega arith)
count_below-past f m (suc k) h =
    count_below-at f (m + suc k) (suc (m + k)) (omega arith) ∙ count_below-no f (m + k) (h (m + k) (omega arith)) ∙ count_below-past f m k h

pub count_below-none : (f : ℕ → Bool) (n : ℕ) → ((q : ℕ) → q < n → f q ≡ false) → count_below f n ≡ 0
count_below-none f zero h = count_below-zero f
count_below-none f (suc n) h = count_below-no f n (h n (omega arith)) ∙ count_below-none f n (λ q l. h q (omega arith))

pub count_below-same : (f g : ℕ → Bool) (n : ℕ) → ((q : ℕ) → q < n → f q ≡ g q) → count_below f n ≡ count_below g n
unfolding count_below
count_below-same f g zero h = refl
count_below-same f g (suc n) h = ap (λ (x : ℕ). x + cond (f n) 1 0) (count_below-same f g n (λ q l. h q (omega arith))) ∙ ap
    (λ (b : Bool). count_below g n + cond b 1 0) (h n (omega arith))

-- one number more than those that pass
pub count_below-or_one : (f : ℕ → Bool) (i n : ℕ) → f i ≡ false → i < n → count_below (λ q. (i == q) || f q) n ≡ count_below f n + 1
count_below-or_one f i zero out l = absurd (omega arith)
count_below-or_one f i (suc n) out l =
    ⊎_elim
    (λ (e : n ≡ i).
    let here : ((i == n) || f n) ≡ true = ap (λ (b : Bool). b || f n) (eq-eqb i n (sym e)) in
    let not_here : f n ≡ false = ap f e ∙ out in
    let below : count_below (λ q. (i == q) || f q) n ≡ count_below f n =
    count_below-same (λ q. (i == q) || f q) f n (λ q m. ap (λ (b : Bool). b || f q) (ne_eqb i q (λ k. let k' : i ≡ q = k in omega arith))) in
    let yes = count_below-yes (λ q. (i == q) || f q) n here in
    let no = count_below-no f n not_here in
    omega arith)
    (λ (ne : n ≡ i → ⊥).
    let same : ((i == n) || f n) ≡ f n = ap (λ (b : Bool). b || f n) (ne_eqb i n (λ k. ne (sym k))) in
    let rest : count_below (λ q. (i == q) || f q) n ≡ count_below f n + 1 = count_below-or_one f i n out (omega arith) in
    ⊎_elim
    (λ (t : f n ≡ true).
    let yes = count_below-yes (λ q. (i == q) || f q) n (same ∙ t) in
    let yes' = count_below-yes f n t in
    omega arith)
    (λ (t : f n ≡ false).
    let no = count_below-no (λ q. (i == q) || f q) n (same ∙ t) in
    let no' = count_below-no f n t in
    omega arith)
    (cases_Bool (f n)))
    (cases_eq n i)

-- a count over a run of numbers is the difference of two counts
pub count_by-range_with_len : (f : ℕ → Bool) (a k : ℕ) → count_below f a + count_by f (range_with_len a k) ≡ count_below f (a + k)
count_by-range_with_len f a zero = omega (arith, count_below-at f (a + 0) a (omega arith))
count_by-range_with_len f a (suc k) =
    let rest : count_below f (a + 1) + count_by f (range_with_len (a + 1) k) ≡ count_below f (a + 1 + k) = count_by-range_with_len f (a + 1) k in
    let end : count_below f (a + 1 + k) ≡ count_below f (a + suc k) = count_below-at f (a + 1 + k) (a + suc k) (omega arith) in
    let start : count_below f (a + 1) ≡ count_below f (suc a) = count_below-at f (a + 1) (suc a) (omega arith) in
    ⊎_elim
    (λ (t : f a ≡ true).
    let yes = count_below-yes f a t in
    let here : count_by f (range_with_len a (suc k)) ≡ 1 + count_by f (range_with_len (a + 1) k) = sum_by-cons (λ x. cond (f x) 1 0) a
    (range_with_len (a + 1) k) ∙ ap (λ (b : Bool). cond b 1 0 + count_by f (range_with_len (a + 1) k)) t in
    omega arith)
    (λ (t : f a ≡ false).
    let no = count_below-no f a t in
    let here : count_by f (range_with_len a (suc k)) ≡ 0 + count_by f (range_with_len (a + 1) k) = sum_by-cons (λ x. cond (f x) 1 0) a
    (range_with_len (a + 1) k) ∙ ap (λ (b : Bool). cond b 1 0 + count_by f (range_with_len (a + 1) k)) t in
    omega arith)
    (cases_Bool (f a))

-- What is counted among the numbers that pass m is counted by their numbers among those.
pub count_below-numbered : (m r s : ℕ → Bool) (n : ℕ) → ((q : ℕ) → q < n → m q ≡ true → s (count_below m q) ≡ r q)
    → count_below (λ q. m q && r q) n ≡ count_below s (count_below m n)
count_below-numbered m r s zero h = count_below-zero (λ q. m q && r q) ∙ sym (count_below-zero s) ∙ ap (count_below s) (sym (count_below-zero m))
count_below-numbered m r s (suc n) h =
    let rest : count_below (λ q. m q && r q) n ≡ count_below s (count_below m n) = count_below-numbered m r s n (λ q l. h q (omega arith)) in
    ⊎_elim
    (λ (t : m n ≡ true).
    let next : count_below s (count_below m (suc n)) ≡ count_below s (suc (count_below m n)) = count_below-at s _ _
    (let yes = count_below-yes m n t in omega arith) in
    let here : (m n && r n) ≡ r n = ap (λ (b : Bool). b && r n) t in
    let told : s (count_below m n) ≡ r n = h n (omega arith) t in
    ⊎_elim
    (λ (y : r n ≡ true).
    let yes = count_below-yes (λ q. m q && r q) n (here ∙ y) in
    let yes' = count_below-yes s (count_below m n) (told ∙ y) in
    omega arith)
    (λ (y : r n ≡ false).
    let no = count_below-no (λ q. m q && r q) n (here ∙ y) in
    let no' = count_below-no s (count_below m n) (told ∙ y) in
    omega arith)
    (cases_Bool (r n)))
    (λ (t : m n ≡ false).
    let next : count_below s (count_below m (suc n)) ≡ count_below s (count_below m n) = ap (count_below s) (count_below-no m n t) in
    let no = count_below-no (λ q. m q && r q) n (ap (λ (b : Bool). b && r n) t) in
    omega arith)
    (cases_Bool (m n))
