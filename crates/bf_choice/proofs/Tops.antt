-- The merge bases are the common places that are no common place's parent.
use Rattle.std.proofs.Common.{◌≡◌, ℕ, ◌<◌, ◌≤◌, Bool, true, false, not, ◌&&◌, ◌==◌, List, length, map, refl, ap, sym, ◌∙◌, subst, ⊎_elim, arith, eq-eqb}
use Rattle.std.proofs.lemmas.Bool.{and_parts, and_from, not-true, not_from_false, both_ways, ne_eqb}
use Rattle.std.proofs.lemmas.Bool.Decides.{same_from_decides, Decides-and}
use Rattle.std.proofs.lemmas.List.Elements.{All-contains, All-filter, filter_passes}
use Rattle.std.proofs.lemmas.List.Folds.{Any-from_list_any, list_any-from_Any}
use Rattle.std.proofs.lemmas.List.FromFn.{fill_by_all, length-map-range_with_len, get_or-map-range_with_len, length-range_with_len, get_or-range_with_len}
use Rattle.std.proofs.lemmas.Simd.{zip2-map, zip2_of_maps}
use Rattle.std.specs.Bool.{Decides}
use Rattle.std.specs.List.{All, Any, Contains, list_any, range_with_len}
use Rattle.std.specs.Simd.Lanes.{zip2}
use Rattle.bf_graph.specs.Graph.{parents_of, IsGraph}
use Rattle.bf_search.specs.Reach.{places, Reaches, reaches, any_reaches, reach_row, reach_row_of}
use Rattle.bf_search.specs.Candidates.{is_in, places_of}
use Rattle.bf_search.specs.Bases.{common_places, merge_bases}
use Rattle.bf_search.proofs.Reaching.{Reaches-from_test, reaches-true, Reaches-parent, Reaches-trans, Reaches-le, StepsFrom, last_step, reaches_decides}
use Rattle.bf_search.proofs.CandidateLemmas.{SomeReaches, any_reaches_decides}
use Rattle.bf_search.proofs.RowLemmas.{is_in-lt}
use Rattle.bf_choice.specs.Parents.{HasChild, IsParentsBelow}
use Rattle.bf_choice.proofs.Listed.{filter_twice, Contains-filter_range, places_of-map}

-- the bad place and some good one both reach it
abbrev IsCommon : List (List ℕ) → ℕ → List ℕ → ℕ → Type 0
IsCommon graph bad goods p = Reaches graph bad p × SomeReaches graph goods p

abbrev is_common : List (List ℕ) → ℕ → List ℕ → ℕ → Bool
is_common graph bad goods p = reaches graph bad p && any_reaches graph goods p

is_common_decides : (graph : List (List ℕ)) (bad : ℕ) (goods : List ℕ) (p : ℕ) → IsGraph graph
    → Decides (is_common graph bad goods p) (IsCommon graph bad goods p)
is_common_decides graph bad goods p g = Decides-and (reaches graph bad p) (any_reaches graph goods p) (reaches_decides graph bad p g)
    (any_reaches_decides graph goods p g)

-- what a common place reaches is common
IsCommon-reached : {graph : List (List ℕ)} {bad : ℕ} {goods : List ℕ} {p q : ℕ} → IsCommon graph bad goods p → Reaches graph p q → IsCommon graph bad goods q
IsCommon-reached {graph} {bad} {goods} {p} {q} h on =
    (Reaches-trans h.0 on, record { source = h.1.source; among = h.1.among; leads = Reaches-trans h.1.leads on })

range_within : (n : ℕ) → All (λ p. p < n) (range_with_len 0 n)
range_within n = λ k d l.
    let short : k < n = omega (arith, length-range_with_len 0 n) in
    rw (get_or-range_with_len 0 n k d short) (omega arith)

-- ---- the list and the row of the common places

common_row : List (List ℕ) → ℕ → List ℕ → List Bool
common_row graph bad goods = map (λ p. is_common graph bad goods p) (places graph)

is_in-common_row : (graph : List (List ℕ)) (bad : ℕ) (goods : List ℕ) (p : ℕ) → p < length graph
    → is_in (common_row graph bad goods) p ≡ is_common graph bad goods p
unfolding common_row
is_in-common_row graph bad goods p h = get_or-map-range_with_len (λ p. is_common graph bad goods p) 0 (length graph) p p false h (omega arith)

length-common_row : (graph : List (List ℕ)) (bad : ℕ) (goods : List ℕ) → length (common_row graph bad goods) ≡ length graph
unfolding common_row
length-common_row graph bad goods = length-map-range_with_len (λ p. is_common graph bad goods p) 0 (length graph)

-- a place of the list of common places
common_tells : (graph : List (List ℕ)) (bad : ℕ) (goods : List ℕ) (p : ℕ) → IsGraph graph → Contains (common_places graph bad goods) p
    → (p < length graph) × IsCommon graph bad goods p
unfolding common_places
common_tells graph bad goods p g h = (
  All-contains (λ q. q < length graph) (common_places graph bad goods) p
      (All-filter (λ q. is_common graph bad goods q) (λ q. q < length graph) (places graph) (range_within (length graph))) h,
  (is_common_decides graph bad goods p g).0 (All-contains (λ q. is_common graph bad goods q ≡ true) (common_places graph bad goods) p
      (filter_passes (λ q. is_common graph bad goods q) (places graph)) h),
)

common_has : (graph : List (List ℕ)) (bad : ℕ) (goods : List ℕ) (p : ℕ) → p < length graph → is_common graph bad goods p ≡ true
    → Contains (common_places graph bad goods) p
unfolding common_places
common_has graph bad goods p l h = Contains-filter_range (λ q. is_common graph bad goods q) 0 (length graph) p (omega arith) (omega arith) h

-- ---- a place that another common place reaches

is_covered : List (List ℕ) → ℕ → List ℕ → ℕ → Bool
is_covered graph bad goods p = list_any (λ q. not (q == p) && reaches graph q p) (common_places graph bad goods)

covered_tells : (graph : List (List ℕ)) (bad : ℕ) (goods : List ℕ) (q : ℕ) → IsGraph graph → is_covered graph bad goods q ≡ true
    → HasChild graph (common_row graph bad goods) q
unfolding is_covered
covered_tells graph bad goods q g h =
    let found : Any (λ r. (not (r == q) && reaches graph r q) ≡ true) (common_places graph bad goods) = Any-from_list_any
    (λ r. not (r == q) && reaches graph r q) (common_places graph bad goods) h in
    let above : ℕ = found.1 in
    let parts : (not (above == q) ≡ true) × (reaches graph above q ≡ true) = and_parts (not (above == q)) (reaches graph above q) found.4 in
    let common : (above < length graph) × IsCommon graph bad goods above = common_tells graph bad goods above g (found.0, found.2, found.3) in
    ⊎_elim
    (λ e. absurd (both_ways (above == q) (not-true (above == q) parts.0) (eq-eqb above q e)))
    (λ (s : StepsFrom graph above q).
    let low : s.child ≤ above = Reaches-le g s.start in
    let within : s.child < length graph = omega (arith, common.0) in
    record {
      child = s.child;
      is_true = is_in-common_row graph bad goods s.child within ∙ (is_common_decides graph bad goods s.child g).1 (IsCommon-reached common.1 s.start);
      step = s.step;
    })
    (last_step (Reaches-from_test graph above q parts.1))

covered_true : (graph : List (List ℕ)) (bad : ℕ) (goods : List ℕ) (q : ℕ) → IsGraph graph → HasChild graph (common_row graph bad goods) q
    → is_covered graph bad goods q ≡ true
unfolding is_covered
covered_true graph bad goods q g h =
    let within : h.child < length graph = omega (arith, is_in-lt (common_row graph bad goods) h.child h.is_true, length-common_row graph bad goods) in
    let common : Contains (common_places graph bad goods) h.child = common_has graph bad goods h.child within
    (sym (is_in-common_row graph bad goods h.child within) ∙ h.is_true) in
    let below : q < h.child = All-contains (λ parent. parent < h.child) (parents_of graph h.child) q (g.earlier h.child) h.step in
    let other : (h.child == q) ≡ false = ne_eqb h.child q (λ e. omega arith) in
    list_any-from_Any (λ r. not (r == q) && reaches graph r q) (common_places graph bad goods) (
      common.0,
      h.child,
      common.1,
      common.2,
      and_from (not (h.child == q)) (reaches graph h.child q) (not_from_false (h.child == q) other)
          (reaches-true graph h.child q g (Reaches-parent h.step)),
    )

-- the row of the parents of the common places has the places that another common place reaches
parents_are_covered : (graph : List (List ℕ)) (bad : ℕ) (goods : List ℕ) (parents : List Bool) → IsGraph graph
    → IsParentsBelow graph (common_row graph bad goods) (length (common_row graph bad goods)) parents
    → parents ≡ map (λ p. is_covered graph bad goods p) (places graph)
parents_are_covered graph bad goods parents g m =
    fill_by_all (λ p. is_covered graph bad goods p) parents (length graph) false (m.same_length ∙ length-common_row graph bad goods)
    (λ q l.
    same_from_decides (is_in parents q) (is_covered graph bad goods q)
    (m.has_child q, λ h. m.complete q h (is_in-lt (common_row graph bad goods) h.child h.is_true))
    (covered_tells graph bad goods q g, covered_true graph bad goods q g))

-- ---- the merge bases

-- the common places, from the two sides
common_of_sides : (graph : List (List ℕ)) (bad : ℕ) (goods : List ℕ) → zip2 ◌&&◌ (reach_row graph bad) (reach_row_of graph goods) ≡ common_row graph bad goods
unfolding reach_row reach_row_of common_row
common_of_sides graph bad goods = zip2-map ◌&&◌ (λ p. reaches graph bad p) (λ p. any_reaches graph goods p) (places graph)

bases_of_common : (graph : List (List ℕ)) (bad : ℕ) (goods : List ℕ) (parents : List Bool) → IsGraph graph
    → IsParentsBelow graph (common_row graph bad goods) (length (common_row graph bad goods)) parents
    → places_of (zip2 (λ mine theirs. mine && not theirs) (common_row graph bad goods) parents) ≡ merge_bases graph bad goods
unfolding common_row is_covered merge_bases common_places
bases_of_common graph bad goods parents g m =
    ap places_of (zip2_of_maps (λ mine theirs. mine && not theirs) (λ p. is_common graph bad goods p) (λ p. is_covered graph bad goods p) (places graph) refl
    (parents_are_covered graph bad goods parents g m))
    ∙ places_of-map (λ p. is_common graph bad goods p && not (is_covered graph bad goods p)) (length graph)
    ∙ filter_twice (λ p. is_common graph bad goods p) (λ p. not (is_covered graph bad goods p)) (places graph)

-- from the row of the common places, as the two sides give it
pub bases_of_sides : (graph : List (List ℕ)) (bad : ℕ) (goods : List ℕ) (common parents : List Bool) → IsGraph graph
    → common ≡ zip2 ◌&&◌ (reach_row graph bad) (reach_row_of graph goods)
    → IsParentsBelow graph common (length common) parents
    → places_of (zip2 (λ mine theirs. mine && not theirs) common parents) ≡ merge_bases graph bad goods
bases_of_sides graph bad goods common parents g are m =
    let same : common ≡ common_row graph bad goods = are ∙ common_of_sides graph bad goods in
    ap (λ row. places_of (zip2 (λ mine theirs. mine && not theirs) row parents)) same
    ∙ bases_of_common graph bad goods parents g (subst (λ (row : List Bool). IsParentsBelow graph row (length row) parents) same m)
