-- The first greatest of the places that pass a test, by what each place says.
use Rattle.std.proofs.Common.{◌≡◌, ℕ, ◌+◌, ◌<◌, ◌≤◌, zero, suc, Bool, true, false, cond, leb, List, [], ◌∷◌, Some, None, refl, sym, ap, ◌∙◌, arith, ⊎_elim}
use Rattle.std.specs.List.{range_with_len, filter, find, list_all}
use Rattle.std.proofs.lemmas.Bool.{cases_eq, cases_Bool, and_from, and_left, and_right, cond-true, cond-false, le-leb, lt-leb}
use Rattle.bf_search.specs.Choice.{first_greatest}

all_from : (test P : ℕ → Bool) (a m : ℕ) → ((q : ℕ) → a ≤ q → q < a + m → test q ≡ true → P q ≡ true) → list_all P (filter test (range_with_len a m)) ≡ true
all_from test P a zero h = refl
all_from test P a (suc m) h =
    let rest : List ℕ = filter test (range_with_len (a + 1) m) in
    let later : list_all P rest ≡ true = all_from test P (a + 1) m (λ q low high e. h q (omega arith) (omega arith) e) in
    ⊎_elim
    (λ yes. ap (λ b. list_all P (cond b (a ∷ rest) rest)) yes ∙ and_from (P a) (list_all P rest) (h a (omega arith) (omega arith) yes) later)
    (λ no. ap (λ b. list_all P (cond b (a ∷ rest) rest)) no ∙ later)
    (cases_Bool (test a))

one_fails : (test P : ℕ → Bool) (a m b : ℕ) → a ≤ b → b < a + m → test b ≡ true → P b ≡ false → list_all P (filter test (range_with_len a m)) ≡ false
one_fails test P a zero b low high e fails = absurd (omega arith)
one_fails test P a (suc m) b low high e fails =
    let rest : List ℕ = filter test (range_with_len (a + 1) m) in
    ⊎_elim
    (λ same. ap (λ t. list_all P (cond t (a ∷ rest) rest)) (ap test (sym same) ∙ e) ∙ and_left (P a) (list_all P rest) (ap P (sym same) ∙ fails))
    (λ other.
    let later : list_all P rest ≡ false = one_fails test P (a + 1) m b (omega arith) (omega arith) e fails in
    ⊎_elim
    (λ yes. ap (λ t. list_all P (cond t (a ∷ rest) rest)) yes ∙ and_right (P a) (list_all P rest) later)
    (λ no. ap (λ t. list_all P (cond t (a ∷ rest) rest)) no ∙ later)
    (cases_Bool (test a)))
    (cases_eq b a)

find_is : (test P : ℕ → Bool) (a m b : ℕ) → a ≤ b → b < a + m → test b ≡ true → P b ≡ true → ((q : ℕ) → q < b → test q ≡ true → P q ≡ false)
    → find P (filter test (range_with_len a m)) ≡ Some b
find_is test P a zero b low high e passes before = absurd (omega arith)
find_is test P a (suc m) b low high e passes before =
    let rest : List ℕ = filter test (range_with_len (a + 1) m) in
    ⊎_elim
    (λ same. ap (λ t. find P (cond t (a ∷ rest) rest)) (ap test (sym same) ∙ e) ∙ cond-true (P a) (Some a) (find P rest) (ap P (sym same) ∙ passes) ∙ ap Some
    (sym same))
    (λ other.
    let later : find P rest ≡ Some b = find_is test P (a + 1) m b (omega arith) (omega arith) e passes before in
    ⊎_elim
    (λ yes. ap (λ t. find P (cond t (a ∷ rest) rest)) yes ∙ cond-false (P a) (Some a) (find P rest) (before a (omega arith) yes) ∙ later)
    (λ no. ap (λ t. find P (cond t (a ∷ rest) rest)) no ∙ later)
    (cases_Bool (test a)))
    (cases_eq b a)

none_pass : (test : ℕ → Bool) (a m : ℕ) → ((q : ℕ) → a ≤ q → q < a + m → test q ≡ false) → filter test (range_with_len a m) ≡ []
none_pass test a zero h = refl
none_pass test a (suc m) h =
    let rest : List ℕ = filter test (range_with_len (a + 1) m) in
    ap (λ b. cond b (a ∷ rest) rest) (h a (omega arith) (omega arith)) ∙ none_pass test (a + 1) m (λ q low high. h q (omega arith) (omega arith))

pub greatest_of_none : (test : ℕ → Bool) (value : ℕ → ℕ) (n : ℕ) → ((q : ℕ) → q < n → test q ≡ false)
    → first_greatest value (filter test (range_with_len 0 n)) ≡ None
greatest_of_none test value n h = ap (first_greatest value) (none_pass test 0 n (λ q low high. h q (omega arith)))

pub greatest_is : (test : ℕ → Bool) (value : ℕ → ℕ) (n b : ℕ) → b < n → test b ≡ true → ((q : ℕ) → q < n → test q ≡ true → value q ≤ value b)
    → ((q : ℕ) → q < b → test q ≡ true → value q < value b)
    → first_greatest value (filter test (range_with_len 0 n)) ≡ Some b
greatest_is test value n b within passes most before =
    let ps : List ℕ = filter test (range_with_len 0 n) in
    find_is test (λ p. list_all (λ q. leb (value q) (value p)) ps) 0 n b (omega arith) (omega arith) passes
    (all_from test (λ q. leb (value q) (value b)) 0 n (λ q low high e. le-leb (value q) (value b) (most q (omega arith) e)))
    (λ p less e. one_fails test (λ q. leb (value q) (value p)) 0 n b (omega arith) (omega arith) passes (lt-leb (value b) (value p) (before p less e)))
