-- Lemmas on the true places of a row, as a list.
use Rattle.std.proofs.Common.{◌≡◌, ℕ, zero, suc, ◌+◌, ◌<◌, ◌≤◌, Bool, true, false, ◌&&◌, ◌==◌, cond, List, [], ◌∷◌, length, map, Some, None, refl, ap}
use Rattle.std.proofs.Common.{sym, ◌∙◌, subst, ⊎_elim, arith, eqb-true}
use Rattle.std.proofs.lemmas.Bool.{cases_Bool, cases_eq, cond-true, cond-false}
use Rattle.std.proofs.lemmas.Bool.Decides.{same_from_decides}
use Rattle.std.proofs.lemmas.List.Elements.{filter_passes, All-contains}
use Rattle.std.proofs.lemmas.List.Folds.{Any-from_list_any}
use Rattle.std.proofs.lemmas.List.FromFn.{length-map-range_with_len, get_or-map-range_with_len}
use Rattle.std.specs.List.{Any, Contains, filter, find, range_with_len}
use Rattle.bf_search.specs.Candidates.{is_in, places_of}
use Rattle.bf_search.specs.Bases.{has_place}
use Rattle.bf_search.proofs.Turns.{has_place-true}

-- ---- the places of a range that pass a test

-- both tests at once, or one after the other
pub filter_twice : (f g : ℕ → Bool) (xs : List ℕ) → filter (λ p. f p && g p) xs ≡ filter g (filter f xs)
filter_twice f g [] = refl
filter_twice f g (x ∷ xs) =
    ⊎_elim
    (λ yes. ap (λ b. cond (b && g x) (x ∷ filter (λ p. f p && g p) xs) (filter (λ p. f p && g p) xs)) yes
    ∙ ap (λ ys. cond (g x) (x ∷ ys) ys) (filter_twice f g xs)
    ∙ ap (λ b. filter g (cond b (x ∷ filter f xs) (filter f xs))) (sym yes))
    (λ fails. ap (λ b. cond (b && g x) (x ∷ filter (λ p. f p && g p) xs) (filter (λ p. f p && g p) xs)) fails
    ∙ filter_twice f g xs
    ∙ ap (λ b. filter g (cond b (x ∷ filter f xs) (filter f xs))) (sym fails))
    (cases_Bool (f x))

-- two tests that agree on the range keep the same places
pub filter_same : (f g : ℕ → Bool) (a n : ℕ) → ((q : ℕ) → a ≤ q → q < a + n → f q ≡ g q) → filter f (range_with_len a n) ≡ filter g (range_with_len a n)
filter_same f g a zero h = refl
filter_same f g a (suc n) h =
    let rest : filter f (range_with_len (a + 1) n) ≡ filter g (range_with_len (a + 1) n) = filter_same f g (a + 1) n
    (λ q l m. h q (omega arith) (omega arith)) in
    rw (h a (omega arith) (omega arith), rest)

-- the range has each place that passes
pub Contains-filter_range : (f : ℕ → Bool) (a n p : ℕ) → a ≤ p → p < a + n → f p ≡ true → Contains (filter f (range_with_len a n)) p
Contains-filter_range f a zero p low high h = absurd (omega arith)
Contains-filter_range f a (suc n) p low high h =
    ⊎_elim
    (λ same. subst (λ (b : Bool). Contains (cond b (a ∷ rest) rest) p) (sym (ap f same ∙ h)) (0, omega arith, same))
    (λ other.
    let later : Contains rest p = Contains-filter_range f (a + 1) n p (omega arith) (omega arith) h in
    ⊎_elim
    (λ yes. subst (λ (b : Bool). Contains (cond b (a ∷ rest) rest) p) (sym yes) (suc later.0, omega (arith, later.1), later.2))
    (λ fails. subst (λ (b : Bool). Contains (cond b (a ∷ rest) rest) p) (sym fails) later)
    (cases_Bool (f a)))
    (cases_eq a p)
  where
    rest : List ℕ
    rest = filter f (range_with_len (a + 1) n)

-- the first of the places that pass f which passes g too
pub find_first : (f g : ℕ → Bool) (a n p : ℕ) → a ≤ p → p < a + n → f p ≡ true → g p ≡ true → ((q : ℕ) → q < p → f q ≡ true → g q ≡ false)
    → find g (filter f (range_with_len a n)) ≡ Some p
find_first f g a zero p low high h k before = absurd (omega arith)
find_first f g a (suc n) p low high h k before =
    ⊎_elim
    (λ same. ap (λ b. find g (cond b (a ∷ rest) rest)) (ap f same ∙ h) ∙ cond-true (g a) (Some a) (find g rest) (ap g same ∙ k) ∙ ap Some same)
    (λ other.
    let later : find g rest ≡ Some p = find_first f g (a + 1) n p (omega arith) (omega arith) h k before in
    ⊎_elim
    (λ yes. ap (λ b. find g (cond b (a ∷ rest) rest)) yes ∙ cond-false (g a) (Some a) (find g rest) (before a (omega arith) yes) ∙ later)
    (λ fails. ap (λ b. find g (cond b (a ∷ rest) rest)) fails ∙ later)
    (cases_Bool (f a)))
    (cases_eq a p)
  where
    rest : List ℕ
    rest = filter f (range_with_len (a + 1) n)

-- and none, where no place that passes f passes g
pub find_none : (f g : ℕ → Bool) (a n : ℕ) → ((q : ℕ) → a ≤ q → q < a + n → f q ≡ true → g q ≡ false) → find g (filter f (range_with_len a n)) ≡ None
find_none f g a zero fails = refl
find_none f g a (suc n) fails =
    let later : find g rest ≡ None = find_none f g (a + 1) n (λ q low high yes. fails q (omega arith) (omega arith) yes) in
    ⊎_elim
    (λ yes. ap (λ b. find g (cond b (a ∷ rest) rest)) yes ∙ cond-false (g a) (Some a) (find g rest) (fails a (omega arith) (omega arith) yes) ∙ later)
    (λ no. ap (λ b. find g (cond b (a ∷ rest) rest)) no ∙ later)
    (cases_Bool (f a))
  where
    rest : List ℕ
    rest = filter f (range_with_len (a + 1) n)

-- ---- rows

-- the places of a row that is made by a test
pub places_of-map : (f : ℕ → Bool) (n : ℕ) → places_of (map f (range_with_len 0 n)) ≡ filter f (range_with_len 0 n)
places_of-map f n =
    rw (length-map-range_with_len f 0 n)
    (filter_same (λ p. is_in (map f (range_with_len 0 n)) p) f 0 n (λ q low high. get_or-map-range_with_len f 0 n q q false (omega arith) (omega arith)))

pub Contains-from_has_place : (ps : List ℕ) (p : ℕ) → has_place ps p ≡ true → Contains ps p
Contains-from_has_place ps p h =
    let found : Any (λ q. (q == p) ≡ true) ps = Any-from_list_any (λ q. q == p) ps h in
    subst (λ (x : ℕ). Contains ps x) (eqb-true found.1 p found.4) (found.0, found.2, found.3)

-- a place of the row is in the list of its places
pub has_place-places_of : (row : List Bool) (p : ℕ) → p < length row → has_place (places_of row) p ≡ is_in row p
has_place-places_of row p l =
    same_from_decides {P = is_in row p ≡ true} (has_place (places_of row) p) (is_in row p) (
      λ h. All-contains (λ q. is_in row q ≡ true) (places_of row) p (filter_passes (λ q. is_in row q) (range_with_len 0 (length row)))
          (Contains-from_has_place (places_of row) p h),
      λ h. has_place-true (places_of row) p (Contains-filter_range (λ q. is_in row q) 0 (length row) p (omega arith) (omega arith) h),
    )
    (λ h. h, λ h. h)
