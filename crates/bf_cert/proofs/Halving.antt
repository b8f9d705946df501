-- Lemmas on places in rising order.
use Rattle.std.proofs.Common.{◌≡◌, ℕ, ◌+◌, ◌<◌, ◌≤◌, Bool, true, false, List, [], ◌∷◌, ◌++◌, length, get_or, Result, Ok, Err, refl, sym, subst, ◌∙◌, ap, ⊎_elim, arith}
use Rattle.std.specs.List.{All, Contains, list_any}
use Rattle.std.specs.List.Sorted.{IsBinarySearchResult, IsNonDecreasing, IsPermutation, IsSorted}
use Rattle.std.specs.Ordering.{nat_cmp}
use Rattle.std.specs.Prelude.{is_ok, MatchResult, ◌==◌}
use Rattle.std.proofs.lemmas.Bool.{cases_order, ne_eqb}
use Rattle.std.proofs.lemmas.List.{get_or_append_left, get_or_push}
use Rattle.std.proofs.lemmas.List.Folds.{list_any_none}
use Rattle.std.proofs.lemmas.Grind.{get_or_default_zero}
use Rattle.std.proofs.lemmas.List.Sorted.{searched, list_any-IsPermutation, IsNonDecreasingBy-from_sort}
use Rattle.bf_graph.specs.Graph.{parents_of}
use Rattle.bf_search.specs.Bases.{has_place}
use Rattle.bf_search.proofs.Turns.{has_place-true}
use Rattle.bf_cert.specs.Edges.{IsRising, AreRisingTo}

-- ---- a place is found by halving exactly where it is there

is_found : (xs : List ℕ) (x : ℕ) (r : Result ℕ ℕ)
    → MatchResult r (λ i. (i < length xs) × (get_or xs i 0 ≡ x))
    (λ i. (i ≤ length xs) × ((k : ℕ) → k < i → get_or xs k 0 < x) × ((k : ℕ) → i ≤ k → k < length xs → x < get_or xs k 0))
    → is_ok r ≡ has_place xs x
is_found xs x (Ok i) (below, there) = sym (has_place-true xs x (i, below, get_or_default_zero xs i x below ∙ there))
is_found xs x (Err i) (seam, less, more) = sym (list_any_none (λ q. q == x) xs none)
  where
    is_other : (k d : ℕ) → k < length xs → get_or xs k d ≡ x → ⊥
    is_other k d below same =
        let at : get_or xs k 0 ≡ x = sym (get_or_default_zero xs k d below) ∙ same in
        ⊎_elim (λ e. omega (arith, more k (omega (arith, e)) below, at))
        (λ c. ⊎_elim (λ l. omega (arith, less k l, at)) (λ l. omega (arith, more k (omega (arith, l)) below, at)) c)
        (cases_order k i)

    none : All (λ q. (q == x) ≡ false) xs
    none = λ k d below. ne_eqb (get_or xs k d) x (is_other k d below)

pub found : (xs : List ℕ) (x : ℕ) (r : Result ℕ ℕ) → IsBinarySearchResult (λ y. nat_cmp y x) xs r → IsNonDecreasing xs → is_ok r ≡ has_place xs x
found xs x r at order = is_found xs x r (searched xs x r at (λ i j low below. order i j 0 low below))

-- ---- sorting a graph

pub sorted_places : (ps qs : List ℕ) → IsPermutation ps qs → IsSorted nat_cmp qs → IsRising ps qs
sorted_places ps qs moved order = record {
  same = λ p. sym (list_any-IsPermutation (λ q. q == p) ps qs moved);
  order = IsNonDecreasingBy-from_sort (λ p. p) qs order;
}

pub one_more : (n : ℕ) (graph sorted : List (List ℕ)) (qs : List ℕ) → length sorted ≡ n → AreRisingTo n graph sorted → IsRising (parents_of graph n) qs
    → AreRisingTo (n + 1) graph (sorted ++ qs ∷ [])
one_more n graph sorted qs len each last p below =
    ⊎_elim
    (λ e. rw (get_or_push sorted qs [] p (len ∙ sym e)) (subst (λ m. IsRising (parents_of graph m) qs) (sym e) last))
    (λ c.
    ⊎_elim (λ l. rw (get_or_append_left sorted (qs ∷ []) [] p (omega (arith, len, l))) (each p l))
    (λ l. absurd (omega (arith, l, below))) c)
    (cases_order p n)
