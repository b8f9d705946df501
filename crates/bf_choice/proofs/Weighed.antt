-- Lemmas on the weights of a whole row.
use Rattle.std.proofs.Common.{◌≡◌, ℕ, zero, suc, ◌+◌, ◌<◌, ◌≤◌, Bool, true, false, cond, ◌&&◌, List, ◌∷◌, length, get_or, map, refl, ap, sym, ◌∙◌, subst}
use Rattle.std.proofs.Common.{⊎_elim, arith}
use Rattle.std.proofs.Math.Bool.{and_comm}
use Rattle.std.proofs.lemmas.Bool.{cases_Bool, cases_lt, both_ways}
use Rattle.std.proofs.lemmas.List.{get_or_past}
use Rattle.std.proofs.lemmas.List.FromFn.{fill_by_all, length-map-range_with_len}
use Rattle.std.proofs.lemmas.Simd.{zip2_of_maps}
use Rattle.std.specs.List.{count_by, range_with_len}
use Rattle.std.specs.Simd.Lanes.{zip2}
use Rattle.bf_graph.specs.Graph.{IsGraph}
use Rattle.bf_search.specs.Reach.{in_mode, places, reaches, reach_row}
use Rattle.bf_search.specs.Candidates.{is_in, is_candidate, IsCandidateRow, weight, weights}
use Rattle.bf_search.proofs.Modes.{IsGraph-in_mode, Reaches-in_mode, length-in_mode}
use Rattle.bf_search.proofs.Reaching.{Reaches-refl, Reaches-trans, Reaches-le}
use Rattle.bf_search.proofs.CandidateLemmas.{IsCandidate, IsCandidate-from_test, is_candidate-true, IsCandidate-between, length-candidate_row}
use Rattle.bf_search.proofs.CandidateLemmas.{is_in-candidate_row}
use Rattle.bf_choice.specs.Numbering.{number_of, IsNumbered, size_of_number}
use Rattle.bf_choice.specs.Plain.{weight_in}
use Rattle.bf_choice.specs.Sizes.{reach_size, reach_sizes}
use Rattle.bf_choice.specs.Pieces.{HasTop}
use Rattle.bf_choice.proofs.Cutting.{HasTop-by_numbers, reach_sizes-at}
use Rattle.bf_choice.proofs.Rows.{map-same, count_by-map}
use Rattle.bf_choice.proofs.Numbered.{number_of-strict, IsClosedBetween, weight-by_numbers}

-- ---- the plain weights

row-is_map : (row : List Bool) (n : ℕ) → length row ≡ n → row ≡ map (is_in row) (range_with_len 0 n)
row-is_map row n long = fill_by_all (is_in row) row n false long (λ k l. refl)

-- the row of what a place reaches, cut to the mask, has as many true places as the place weighs
pub count_by-reached : (graph : List (List ℕ)) (row : List Bool) (p : ℕ) → length row ≡ length graph
    → count_by (λ v. v) (zip2 ◌&&◌ (reach_row graph p) row) ≡ weight graph row p
unfolding weight reach_row
count_by-reached graph row p long =
    ap (λ (joined : List Bool). count_by (λ v. v) joined)
    (zip2_of_maps ◌&&◌ (reaches graph p) (is_in row) (places graph) refl (row-is_map row (length graph) long)
    ∙ map-same (λ q. reaches graph p q && is_in row q) (λ q. is_in row q && reaches graph p q) (λ q. and_comm (reaches graph p q) (is_in row q)) (places graph))
    ∙ count_by-map (λ q. is_in row q && reaches graph p q) (places graph)

pub weight_in-none : (graph : List (List ℕ)) (row : List Bool) (first_parent : Bool) (p : ℕ) → is_in row p ≡ false → 0 ≡ weight_in graph row first_parent p
unfolding weight_in
weight_in-none graph row first_parent p t = ap (λ (b : Bool). cond b (weight (in_mode graph first_parent) row p) 0) (sym t)

pub weight_in-is : (graph : List (List ℕ)) (row : List Bool) (first_parent : Bool) (p : ℕ) → is_in row p ≡ true
    → weight (in_mode graph first_parent) row p ≡ weight_in graph row first_parent p
unfolding weight_in
weight_in-is graph row first_parent p t = ap (λ (b : Bool). cond b (weight (in_mode graph first_parent) row p) 0) (sym t)

pub weight_in-counted : (graph : List (List ℕ)) (row : List Bool) (first_parent : Bool) (p : ℕ) (reached joined : List Bool) → length row ≡ length graph
    → is_in row p ≡ true
    → reached ≡ reach_row (in_mode graph first_parent) p → joined ≡ zip2 ◌&&◌ reached row → count_by (λ v. v) joined ≡ weight_in graph row first_parent p
weight_in-counted graph row first_parent p reached joined long t is cut =
    ap (λ (r : List Bool). count_by (λ v. v) r) (cut ∙ ap (λ (r : List Bool). zip2 ◌&&◌ r row) is)
    ∙ count_by-reached (in_mode graph first_parent) row p (long ∙ sym (length-in_mode graph first_parent))
    ∙ weight_in-is graph row first_parent p t

pub weights-is : (graph : List (List ℕ)) (row : List Bool) (first_parent : Bool) (n : ℕ) → n ≡ length graph
    → map (weight_in graph row first_parent) (range_with_len 0 n) ≡ weights graph row first_parent
unfolding weights weight_in
weights-is graph row first_parent n e = ap (λ (k : ℕ). map (λ p. cond (is_in row p) (weight (in_mode graph first_parent) row p) 0) (range_with_len 0 k)) e

-- ---- the weights by numbers

-- a row of candidates has what stands between two of them
pub IsClosedBetween-candidates : (graph : List (List ℕ)) (first_parent : Bool) (row : List Bool) → IsGraph graph → IsCandidateRow graph first_parent row
    → IsClosedBetween (in_mode graph first_parent) row
IsClosedBetween-candidates graph first_parent row g h = record {
  places = λ p t. omega (arith, within p t, length-in_mode graph first_parent);
  between = λ p r q tp tq first second.
      let above : IsCandidate graph h.bad h.goods first_parent p = told p tp in
      let below : IsCandidate graph h.bad h.goods first_parent q = told q tq in
      let mid : IsCandidate graph h.bad h.goods first_parent r = IsCandidate-between graph h.bad h.goods first_parent p r q above below first second in
      let early : r < length graph = omega (arith, within p tp, Reaches-le (IsGraph-in_mode graph first_parent g) first) in
      at r early ∙ is_candidate-true graph h.bad h.goods first_parent r g mid;
}
  where
    long : length row ≡ length graph
    long = ap (λ (xs : List Bool). length xs) h.has_candidates ∙ length-candidate_row graph h.bad h.goods first_parent

    within : (p : ℕ) → is_in row p ≡ true → p < length graph
    within p t = ⊎_elim (λ l. l) (λ (l : length graph ≤ p). absurd (both_ways (is_in row p) (get_or_past row p false (omega (arith, long))) t))
        (cases_lt p (length graph))

    at : (p : ℕ) → p < length graph → is_in row p ≡ is_candidate graph h.bad h.goods first_parent p
    at p l = ap (λ (xs : List Bool). is_in xs p) h.has_candidates ∙ is_in-candidate_row graph h.bad h.goods first_parent p l

    told : (p : ℕ) → is_in row p ≡ true → IsCandidate graph h.bad h.goods first_parent p
    told p t = IsCandidate-from_test graph h.bad h.goods first_parent p g (sym (at p (within p t)) ∙ t)

IsCandidate-from_row : (graph : List (List ℕ)) (first_parent : Bool) (row : List Bool) → IsGraph graph → (h : IsCandidateRow graph first_parent row) → (p : ℕ)
    → is_in row p ≡ true → IsCandidate graph h.bad h.goods first_parent p
IsCandidate-from_row graph first_parent row g h p t =
    let early : p < length graph = omega (arith, (IsClosedBetween-candidates graph first_parent row g h).places p t, length-in_mode graph first_parent) in
    IsCandidate-from_test graph h.bad h.goods first_parent p g
    (sym (ap (λ (xs : List Bool). is_in xs p) h.has_candidates ∙ is_in-candidate_row graph h.bad h.goods first_parent p early) ∙ t)

pub length-mask : (graph : List (List ℕ)) (first_parent : Bool) (row : List Bool) → IsCandidateRow graph first_parent row → length row ≡ length graph
length-mask graph first_parent row h = ap (λ (xs : List Bool). length xs) h.has_candidates ∙ length-candidate_row graph h.bad h.goods first_parent

pub length-reach_sizes : (graph : List (List ℕ)) → length (reach_sizes graph) ≡ length graph
unfolding reach_sizes
length-reach_sizes graph = length-map-range_with_len (reach_size graph) 0 (length graph)

map-agree_on : (f g : ℕ → ℕ) (a n : ℕ) → ((k : ℕ) → k < a + n → f k ≡ g k) → map f (range_with_len a n) ≡ map g (range_with_len a n)
map-agree_on f g a zero h = refl
map-agree_on f g a (suc n) h =
    ap (λ (x : ℕ). x ∷ map f (range_with_len (a + 1) n)) (h a (omega arith)) ∙ ap (λ (xs : List ℕ). g a ∷ xs)
    (map-agree_on f g (a + 1) n (λ k l. h k (omega arith)))

pub size_of_number-yes : (row : List Bool) (sizes : List ℕ) (p : ℕ) → is_in row p ≡ true → size_of_number row sizes p ≡ get_or sizes (number_of row p) 0
size_of_number-yes row sizes p t = ap (λ (b : Bool). cond b (get_or sizes (number_of row p) 0) 0) t

size_of_number-no : (row : List Bool) (sizes : List ℕ) (p : ℕ) → is_in row p ≡ false → size_of_number row sizes p ≡ 0
size_of_number-no row sizes p t = ap (λ (b : Bool). cond b (get_or sizes (number_of row p) 0) 0) t

pub weights-by_numbers : (graph : List (List ℕ)) (first_parent : Bool) (row : List Bool) (small : List (List ℕ)) (sizes : List ℕ) → IsGraph graph
    → IsGraph small → IsCandidateRow graph first_parent row
    → IsNumbered (in_mode graph first_parent) row (length graph) small → sizes ≡ reach_sizes small
    → map (size_of_number row sizes) (range_with_len 0 (length row)) ≡ weights graph row first_parent
weights-by_numbers graph first_parent row small sizes g s h numbered is =
    map-agree_on (size_of_number row sizes) (weight_in graph row first_parent) 0 (length row) each
    ∙ weights-is graph row first_parent (length row) (length-mask graph first_parent row h)
  where
    in_graph : IsNumbered (in_mode graph first_parent) row (length (in_mode graph first_parent)) small
    in_graph = subst (λ (n : ℕ). IsNumbered (in_mode graph first_parent) row n small) (sym (length-in_mode graph first_parent)) numbered

    at : (p : ℕ) → p < length graph → is_in row p ≡ true → get_or sizes (number_of row p) 0 ≡ weight (in_mode graph first_parent) row p
    at p l t =
        ap (λ (xs : List ℕ). get_or xs (number_of row p) 0) is
        ∙ reach_sizes-at small (number_of row p) (omega (arith, number_of-strict row p (length graph) l t, numbered.size))
        ∙ sym (weight-by_numbers (in_mode graph first_parent) row small (IsGraph-in_mode graph first_parent g) s
        (IsClosedBetween-candidates graph first_parent row g h) in_graph p t)

    each : (p : ℕ) → p < 0 + length row → size_of_number row sizes p ≡ weight_in graph row first_parent p
    each p l =
        ⊎_elim
        (λ (t : is_in row p ≡ true).
        size_of_number-yes row sizes p t ∙ at p (omega (arith, length-mask graph first_parent row h)) t ∙ weight_in-is graph row first_parent p t)
        (λ (t : is_in row p ≡ false). size_of_number-no row sizes p t ∙ weight_in-none graph row first_parent p t)
        (cases_Bool (is_in row p))

-- the bad place reaches all candidates
pub HasTop-candidates : (graph : List (List ℕ)) (first_parent : Bool) (row : List Bool) (small : List (List ℕ)) → IsGraph graph
    → IsCandidateRow graph first_parent row → IsNumbered (in_mode graph first_parent) row (length graph) small → HasTop small
HasTop-candidates graph first_parent row small g h numbered =
    HasTop-by_numbers (in_mode graph first_parent) row small h.bad (IsGraph-in_mode graph first_parent g) closed
    (subst (λ (n : ℕ). IsNumbered (in_mode graph first_parent) row n small) (sym (length-in_mode graph first_parent)) numbered)
    (λ q t.
    let one : IsCandidate graph h.bad h.goods first_parent q = IsCandidate-from_row graph first_parent row g h q t in (
      at_row h.bad h.bad_is_place
          ∙ is_candidate-true graph h.bad h.goods first_parent h.bad g (record {
            reached = Reaches-refl (in_mode graph first_parent) h.bad;
            not_good = λ sg. one.not_good (record {
              source = sg.source;
              among = sg.among;
              leads = Reaches-trans sg.leads
                  (Reaches-in_mode graph first_parent h.bad q one.reached);
            });
          }),
      one.reached,
    ))
  where
    closed : IsClosedBetween (in_mode graph first_parent) row
    closed = IsClosedBetween-candidates graph first_parent row g h

    at_row : (p : ℕ) → p < length graph → is_in row p ≡ is_candidate graph h.bad h.goods first_parent p
    at_row p l = ap (λ (xs : List Bool). is_in xs p) h.has_candidates ∙ is_in-candidate_row graph h.bad h.goods first_parent p l
