-- Lemmas on the places of a range that pass a test, as a list.
use Rattle.std.proofs.Common.{◌≡◌, ℕ, zero, suc, ◌+◌, ◌<◌, ◌≤◌, Bool, true, false, [], ◌∷◌, ◌++◌, ap, sym, ◌∙◌, ⊎_elim, arith}
use Rattle.std.proofs.lemmas.Bool.{cases_eq, cond-true, cond-false}
use Rattle.std.proofs.lemmas.List.{append-nil}
use Rattle.std.proofs.lemmas.List.Elements.{filter-append}
use Rattle.std.specs.List.{filter, range_with_len}

range_more : (a n j : ℕ) → a + n ≡ j → range_with_len a (suc n) ≡ range_with_len a n ++ j ∷ []
range_more a zero j e = let same : a ≡ j = omega arith in ap (λ x. x ∷ []) same
range_more a (suc n) j e = ap (λ xs. a ∷ xs) (range_more (a + 1) n j (omega arith))

-- one more place that passes
filter_pass : (f : ℕ → Bool) (n : ℕ) → f n ≡ true → filter f (range_with_len 0 (suc n)) ≡ filter f (range_with_len 0 n) ++ n ∷ []
filter_pass f n h =
    ap (filter f) (range_more 0 n n (omega arith)) ∙ filter-append f (range_with_len 0 n) (n ∷ [])
    ∙ ap (λ xs. filter f (range_with_len 0 n) ++ xs) (cond-true (f n) (n ∷ []) [] h)

-- one more place that fails
filter_fail : (f : ℕ → Bool) (n : ℕ) → f n ≡ false → filter f (range_with_len 0 (suc n)) ≡ filter f (range_with_len 0 n)
filter_fail f n h =
    ap (filter f) (range_more 0 n n (omega arith)) ∙ filter-append f (range_with_len 0 n) (n ∷ [])
    ∙ ap (λ xs. filter f (range_with_len 0 n) ++ xs) (cond-false (f n) (n ∷ []) [] h) ∙ append-nil (filter f (range_with_len 0 n))

-- where no place from low up to high passes, the places below either are the same
pub filter_quiet : (f : ℕ → Bool) (low high : ℕ) → low ≤ high → ((q : ℕ) → low ≤ q → q < high → f q ≡ false)
    → filter f (range_with_len 0 high) ≡ filter f (range_with_len 0 low)
filter_quiet f low zero l fails = let same : zero ≡ low = omega arith in ap (λ n. filter f (range_with_len 0 n)) same
filter_quiet f low (suc high) l fails =
    ⊎_elim
    (λ e. ap (λ n. filter f (range_with_len 0 n)) (sym e))
    (λ other. filter_fail f high (fails high (omega arith) (omega arith)) ∙ filter_quiet f low high (omega arith) (λ q down up. fails q down (omega arith)))
    (cases_eq low (suc high))

-- the next place that passes
pub filter_next : (f : ℕ → Bool) (low place : ℕ) → low ≤ place → f place ≡ true → ((q : ℕ) → low ≤ q → q < place → f q ≡ false)
    → filter f (range_with_len 0 (place + 1)) ≡ filter f (range_with_len 0 low) ++ place ∷ []
filter_next f low place l here fails =
    let next : place + 1 ≡ suc place = omega arith in
    ap (λ n. filter f (range_with_len 0 n)) next ∙ filter_pass f place here ∙ ap (λ xs. xs ++ place ∷ []) (filter_quiet f low place l fails)
