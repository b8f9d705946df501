-- Lists of numbers in strictly ascending order: two with the same members are one.
use Rattle.std.proofs.Common.{◌≡◌, ⊎_elim, ℕ, suc, ◌<◌, ◌≤◌, Bool, true, false, cond, ◌||◌, ◌==◌, All, List, [], ◌∷◌, length, filter, get_or, refl, sym, ap, subst, ◌∙◌, eqb-true, eq-eqb, arith}
use Rattle.std.proofs.lemmas.Bool.{both_ways, cases_order, ltb-true, ltb-false}
use Rattle.std.proofs.lemmas.List.Folds.{list_any_at}
use Rattle.std.specs.Prelude.{nat_lt}
use Rattle.std.proofs.lemmas.List.Elements.{All-cons, All-nil}
use Rattle.std.proofs.lemmas.List.Kept.{AllPairs-cons, AllPairs-from_increasing}
use Rattle.std.specs.List.{list_any, AllPairs, Contains}
use Rattle.std.specs.List.Sorted.{IsStrictlyIncreasing}
use Rattle.bf_serve.specs.Searches.{ascending, with_worker}

abbrev pub has : List ℕ → ℕ → Bool
has xs w = list_any (λ x. x == w) xs

-- each of these is greater
abbrev pub Above : ℕ → List ℕ → Type 0
Above x [] = Unit {0}
Above x (y ∷ ys) = (x < y) × Above x ys

abbrev pub Rises : List ℕ → Type 0
Rises [] = Unit {0}
Rises (x ∷ xs) = Above x xs × Rises xs

above_lower : (x y : ℕ) (ys : List ℕ) → x < y → Above y ys → Above x ys
above_lower x y [] l h = tt
above_lower x y (z ∷ zs) l h = ((let m = h.0 in omega (arith, l, m)), above_lower x y zs l h.1)

above_pairs : (x : ℕ) (ys : List ℕ) → ((j d : ℕ) → j < length ys → x < get_or ys j d) → Above x ys
above_pairs x [] h = tt
above_pairs x (y ∷ ys) h = (h 0 0 (omega arith), above_pairs x ys (λ j d l. h (suc j) d (omega (arith, l))))

rises_pairs : (xs : List ℕ) → AllPairs (λ x y. x < y) xs → Rises xs
rises_pairs [] h = tt
rises_pairs (x ∷ xs) h = (
  above_pairs x xs (λ j d l. h 0 (suc j) d (omega arith) (omega (arith, l))),
  rises_pairs xs (λ i j d lower below. h (suc i) (suc j) d (omega (arith, lower)) (omega (arith, below))),
)

pub rises_of : (xs : List ℕ) → IsStrictlyIncreasing xs → Rises xs
rises_of xs h = rises_pairs xs (AllPairs-from_increasing xs h)

above_all : (x : ℕ) (ys : List ℕ) → Above x ys → All (λ y. x < y) ys
above_all x [] h = All-nil (λ y. x < y)
above_all x (y ∷ ys) h = All-cons (λ y. x < y) y ys h.0 (above_all x ys h.1)

pub pairs_rise : (xs : List ℕ) → Rises xs → AllPairs (λ x y. x < y) xs
pairs_rise [] h = λ i j d l m. absurd (omega (arith, m))
pairs_rise (x ∷ xs) h = AllPairs-cons (λ x y. x < y) x xs (above_all x xs h.0) (pairs_rise xs h.1)

-- a number that is no greater is none of them
differs : (y w : ℕ) (b : Bool) → (y == w) ≡ b → w < y → b ≡ false
differs y w true e l = absurd (let same = eqb-true y w e in omega (arith, same, l))
differs y w false e l = refl

pub not_above : (x w : ℕ) (ys : List ℕ) → Above x ys → w ≤ x → has ys w ≡ false
not_above x w [] h le = refl
not_above x w (y ∷ ys) h le =
    ap (λ (b : Bool). b || has ys w) (differs y w (y == w) refl (let l = h.0 in omega (arith, l, le))) ∙ not_above x w ys h.1 le

first_in : (x : ℕ) (xs : List ℕ) → has (x ∷ xs) x ≡ true
first_in x xs = ap (λ (b : Bool). b || has xs x) (eq-eqb x x refl)

same_rest : (x w : ℕ) (xs ys : List ℕ) (b : Bool) → (x == w) ≡ b → Above x xs → Above x ys → (b || has xs w) ≡ (b || has ys w) → has xs w ≡ has ys w
same_rest x w xs ys true e a c h =
    let le : w ≤ x = (let same = eqb-true x w e in omega (arith, same)) in not_above x w xs a le ∙ sym (not_above x w ys c le)
same_rest x w xs ys false e a c h = h

pub same_members : (xs ys : List ℕ) → Rises xs → Rises ys → ((w : ℕ) → has xs w ≡ has ys w) → xs ≡ ys
same_members [] [] rx ry h = refl
same_members [] (y ∷ ys) rx ry h = absurd (both_ways (has (y ∷ ys) y) (sym (h y)) (first_in y ys))
same_members (x ∷ xs) [] rx ry h = absurd (both_ways (has (x ∷ xs) x) (h x) (first_in x xs))
same_members (x ∷ xs) (y ∷ ys) rx ry h =
    ⊎_elim
    (λ (e : x ≡ y). equal e (same_members xs ys rx.1 ry.1 (λ w.
    same_rest x w xs ys (x == w) refl rx.0 (subst (λ (z : ℕ). Above z ys) (sym e) ry.0)
    (h w ∙ ap (λ (z : ℕ). (z == w) || has ys w) (sym e)))))
    (λ rest. ⊎_elim
    (λ (l : x < y). absurd (both_ways (has (y ∷ ys) x)
    (ap (λ (b : Bool). b || has ys x) (differs y x (y == x) refl l) ∙ not_above y x ys ry.0 (omega (arith, l))) (sym (h x) ∙ first_in x xs)))
    (λ (l : y < x). absurd (both_ways (has (x ∷ xs) y)
    (ap (λ (b : Bool). b || has xs y) (differs x y (x == y) refl l) ∙ not_above x y xs rx.0 (omega (arith, l))) (h y ∙ first_in y ys)))
    rest)
    (cases_order x y)
  where
    equal : x ≡ y → xs ≡ ys → (x ∷ xs) ≡ (y ∷ ys)
    equal e rest = λ i. e i ∷ rest i

-- ---- insertion

above_with : (x w : ℕ) (ys : List ℕ) → x < w → Above x ys → Above x (with_worker w ys)
above_with x w [] l h = (l, tt)
above_with x w (v ∷ vs) l h = by (above_with x w vs l h.1) (nat_lt w v) (w == v)
  where
    by : (Above x (with_worker w vs)) → (a b : Bool) → Above x (cond a (w ∷ v ∷ vs) (cond b (v ∷ vs) (v ∷ with_worker w vs)))
    by rest true b = (l, h)
    by rest false true = h
    by rest false false = (h.0, rest)

pub rises_with : (w : ℕ) (ys : List ℕ) → Rises ys → Rises (with_worker w ys)
rises_with w [] h = (tt, tt)
rises_with w (v ∷ vs) h = by (rises_with w vs h.1) (nat_lt w v) refl (w == v) refl
  where
    by : (Rises (with_worker w vs)) → (a : Bool) → nat_lt w v ≡ a → (b : Bool) → (w == v) ≡ b → Rises (cond a (w ∷ v ∷ vs) (cond b (v ∷ vs) (v ∷ with_worker w vs)))
    by rest true e b f = let l : w < v = ltb-true w v e in ((l, above_lower w v vs l h.0), h)
    by rest false e true f = h
    by rest false e false f = (
      above_with v w vs (⊎_elim (λ (same : w ≡ v). absurd (both_ways (w == v) f (eq-eqb w v same)))
          (λ rest. ⊎_elim (λ (l : w < v). absurd (let le = ltb-false w v e in omega (arith, le, l))) (λ (l : v < w). l) rest)
          (cases_order w v)) h.0,
      rest,
    )

or_swap : (a b c : Bool) → (a || (b || c)) ≡ (b || (a || c))
or_swap true true c = refl
or_swap true false c = refl
or_swap false true c = refl
or_swap false false c = refl

or_twice : (a c : Bool) → (a || c) ≡ (a || (a || c))
or_twice true c = refl
or_twice false c = refl

pub has_with : (w u : ℕ) (ys : List ℕ) → has (with_worker w ys) u ≡ ((w == u) || has ys u)
has_with w u [] = refl
has_with w u (v ∷ vs) = by (has_with w u vs) (nat_lt w v) (w == v) refl
  where
    by : (has (with_worker w vs) u ≡ ((w == u) || has vs u)) → (a b : Bool) → (w == v) ≡ b → has (cond a (w ∷ v ∷ vs) (cond b (v ∷ vs) (v ∷ with_worker w vs))) u ≡ ((w == u) || ((v == u) || has vs u))
    by rest true b f = refl
    by rest false true f =
        ap (λ (z : ℕ). (z == u) || has vs u) (sym (eqb-true w v f)) ∙ or_twice (w == u) (has vs u)
        ∙ ap (λ (z : ℕ). (w == u) || ((z == u) || has vs u)) (eqb-true w v f)
    by rest false false f = ap (λ (b : Bool). (v == u) || b) rest ∙ or_swap (v == u) (w == u) (has vs u)

pub rises_ascending : (ws : List ℕ) → Rises (ascending ws)
rises_ascending [] = tt
rises_ascending (w ∷ ws) = rises_with w (ascending ws) (rises_ascending ws)

pub has_ascending : (ws : List ℕ) (u : ℕ) → has (ascending ws) u ≡ has ws u
has_ascending [] u = refl
has_ascending (w ∷ ws) u = has_with w u (ascending ws) ∙ ap (λ (b : Bool). (w == u) || b) (has_ascending ws u)

-- ---- some of them

above_some : (p : ℕ → Bool) (x : ℕ) (ys : List ℕ) → Above x ys → Above x (filter p ys)
above_some p x [] h = tt
above_some p x (y ∷ ys) h = by (above_some p x ys h.1) (p y)
  where
    by : (Above x (filter p ys)) → (b : Bool) → Above x (cond b (y ∷ filter p ys) (filter p ys))
    by rest true = (h.0, rest)
    by rest false = rest

pub rises_some : (p : ℕ → Bool) (ys : List ℕ) → Rises ys → Rises (filter p ys)
rises_some p [] h = tt
rises_some p (y ∷ ys) h = by (rises_some p ys h.1) (p y)
  where
    first : Above y (filter p ys)
    first = above_some p y ys h.0

    by : (Rises (filter p ys)) → (b : Bool) → Rises (cond b (y ∷ filter p ys) (filter p ys))
    by rest true = (first, rest)
    by rest false = rest

-- ---- members

pub has_contained : (w : ℕ) (xs : List ℕ) → Contains xs w → has xs w ≡ true
has_contained w xs c = list_any_at (λ v. v == w) xs c.0 w c.1 (eq-eqb (get_or xs c.0 w) w c.2)

one_later : (v w : ℕ) (vs : List ℕ) → Contains vs w → Contains (v ∷ vs) w
one_later v w vs c = (suc c.0, (let l = c.1 in omega (arith, l)), c.2)

pub contained_has : (w : ℕ) (xs : List ℕ) → has xs w ≡ true → Contains xs w
contained_has w [] h = cc h
contained_has w (v ∷ vs) h = by (λ there. one_later v w vs (contained_has w vs there)) (v == w) refl h
  where
    by : (has vs w ≡ true → Contains (v ∷ vs) w) → (b : Bool) → (v == w) ≡ b → (b || has vs w) ≡ true → Contains (v ∷ vs) w
    by rest true e there = (0, omega arith, eqb-true v w e)
    by rest false e there = rest there

pub both_true : (a b : Bool) → (a ≡ true → b ≡ true) → (b ≡ true → a ≡ true) → a ≡ b
both_true true b f g = sym (f refl)
both_true false true f g = g refl
both_true false false f g = refl
