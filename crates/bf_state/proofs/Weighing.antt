-- The weights of candidates: one for each place, none more than there are candidates.
use Rattle.std.proofs.Common.{◌≡◌, ℕ, ◌+◌, ◌≤◌, Bool, true, false, ◌&&◌, cond, List, [], ◌∷◌, length, get_or, map, refl, sym, ap, ◌∙◌, arith}
use Rattle.std.proofs.lemmas.List.Elements.{All-map}
use Rattle.std.proofs.lemmas.List.FromFn.{length-map-range_with_len, fill_by_all}
use Rattle.std.proofs.lemmas.List.Sums.{sum_by-cons}
use Rattle.std.specs.List.{All, count_by, range_with_len}
use Rattle.bf_search.specs.Reach.{in_mode, places, reaches}
use Rattle.bf_search.specs.Candidates.{is_in, weight, weights}
use Rattle.bf_search.specs.Choice.{count_in}
use Rattle.bf_search.proofs.Modes.{length-in_mode}

count_by-map : (f : ℕ → Bool) (qs : List ℕ) → count_by (λ v. v) (map f qs) ≡ count_by f qs
count_by-map f [] = refl
count_by-map f (q ∷ qs) =
    sum_by-cons (λ v. cond v 1 0) (f q) (map f qs) ∙ ap (λ n. cond (f q) 1 0 + n) (count_by-map f qs) ∙ sym (sum_by-cons (λ y. cond (f y) 1 0) q qs)

-- the places of a row, counted one after another
count_in-places : (row : List Bool) → count_in row ≡ count_by (λ q. is_in row q) (range_with_len 0 (length row))
count_in-places row =
    ap (λ (r : List Bool). count_by (λ v. v) r) (fill_by_all (λ q. is_in row q) row (length row) false refl (λ k h. refl)) ∙ count_by-map (λ q. is_in row q)
    (range_with_len 0 (length row))

count_both_le : (f g : ℕ → Bool) (qs : List ℕ) → count_by (λ q. f q && g q) qs ≤ count_by f qs
count_both_le f g [] = omega arith
count_both_le f g (q ∷ qs) =
    omega (arith, sum_by-cons (λ y. cond (f y && g y) 1 0) q qs, sum_by-cons (λ y. cond (f y) 1 0) q qs, one (f q) (g q), count_both_le f g qs)
  where
    one : (a b : Bool) → cond (a && b) 1 0 ≤ cond a 1 0
    one true true = omega arith
    one true false = omega arith
    one false b = omega arith

weight_le : (graph : List (List ℕ)) (row : List Bool) (p : ℕ) → length row ≡ length graph → weight graph row p ≤ count_in row
unfolding weight
weight_le graph row p same =
    omega (
      arith,
      count_in-places row,
      ap (λ n. count_by (λ q. is_in row q) (range_with_len 0 n)) same,
      count_both_le (λ q. is_in row q)
          (λ q. reaches graph p q) (places graph),
    )

pub length-weights : (graph : List (List ℕ)) (row : List Bool) (first_parent : Bool) → length (weights graph row first_parent) ≡ length graph
unfolding weights
length-weights graph row first_parent = length-map-range_with_len (λ p. cond (is_in row p) (weight (in_mode graph first_parent) row p) 0) 0 (length graph)

pub weights_within : (graph : List (List ℕ)) (row : List Bool) (first_parent : Bool) → length row ≡ length graph
    → All (λ w. w ≤ count_in row) (weights graph row first_parent)
unfolding weights
weights_within graph row first_parent same = All-map (λ w. w ≤ count_in row) (λ p. cond (is_in row p) (weight (in_mode graph first_parent) row p) 0)
    (places graph) (λ k d l. each (get_or (places graph) k d))
  where
    choice : (b : Bool) (n m : ℕ) → n ≤ m → cond b n 0 ≤ m
    choice true n m h = h
    choice false n m h = omega arith

    each : (p : ℕ) → cond (is_in row p) (weight (in_mode graph first_parent) row p) 0 ≤ count_in row
    each p = choice (is_in row p) (weight (in_mode graph first_parent) row p) (count_in row)
        (weight_le (in_mode graph first_parent) row p (same ∙ sym (length-in_mode graph first_parent)))
