-- The rows of the candidates after an ask and after a mark.
use Rattle.std.proofs.Common.{◌≡◌, ℕ, Bool, true, false, not, ◌&&◌, ◌||◌, cond, List, [], ◌∷◌, ◌++◌, map, Option, Some, None, refl, sym, ap, ◌∙◌, subst}
use Rattle.std.proofs.lemmas.Bool.{cond-false}
use Rattle.std.proofs.lemmas.Simd.{zip2_of_maps}
use Rattle.std.specs.List.{range_with_len}
use Rattle.std.specs.Simd.Lanes.{zip2}
use Rattle.bf_graph.specs.Graph.{IsGraph}
use Rattle.bf_search.specs.declared.asks.Ask.TheVariants.{Test}
use Rattle.bf_search.specs.declared.outcomes.Mark.TheVariants.{Good, Bad, Skip}
use Rattle.bf_search.specs.Bases.{has_place}
use Rattle.bf_search.specs.Candidates.{is_candidate, candidate_row, weights}
use Rattle.bf_search.specs.Guesses.{is_candidate_below, is_candidate_of, IsParted}
use Rattle.bf_search.specs.Reach.{places, in_mode, reaches, any_reaches, reach_row}
use Rattle.bf_search.specs.State.{Search, Asked, ask, mark}
use Rattle.bf_search.proofs.Modes.{length-in_mode}
use Rattle.bf_search.proofs.Turns.{Asking, asking}
use Rattle.bf_state.specs.Weighed.{row_below, mask_of, weights_of, weights_between, weights_needed}
use Rattle.bf_state.proofs.Asks.{ask_leaves}
use Rattle.bf_state.proofs.AskAgain.{ask_again}
use Rattle.bf_state.proofs.Parted.{any_reaches-push, guesses_part}

-- ---- after an ask, and after a skip

same_mask : (graph : List (List ℕ)) (s t : Search) → t.bad ≡ s.bad → t.goods ≡ s.goods → t.first_parent ≡ s.first_parent → mask_of graph t ≡ mask_of graph s
same_mask graph s t b g f = ap (λ (o : Option ℕ). row_below graph o t) b ∙ below s.bad
  where
    below : (o : Option ℕ) → row_below graph o t ≡ row_below graph o s
    below None = refl
    below (Some bad) = ap (λ (gs : List ℕ). candidate_row graph bad gs t.first_parent) g ∙ ap (λ (v : Bool). candidate_row graph bad s.goods v) f

same_weights : (graph : List (List ℕ)) (s t : Search) → t.bad ≡ s.bad → t.goods ≡ s.goods → t.first_parent ≡ s.first_parent
    → weights_of graph t ≡ weights_of graph s
same_weights graph s t b g f = ap (λ (m : List Bool). weights graph m t.first_parent) (same_mask graph s t b g f) ∙ ap
    (λ (v : Bool). weights graph (mask_of graph s) v) f

asked_bad : (graph : List (List ℕ)) (s : Search) → (ask graph s).search.bad ≡ s.bad
asked_bad graph s = ap (λ (t : Search). t.bad) (ask_leaves graph s)

asked_goods : (graph : List (List ℕ)) (s : Search) → (ask graph s).search.goods ≡ s.goods
asked_goods graph s = ap (λ (t : Search). t.goods) (ask_leaves graph s)

asked_mode : (graph : List (List ℕ)) (s : Search) → (ask graph s).search.first_parent ≡ s.first_parent
asked_mode graph s = ap (λ (t : Search). t.first_parent) (ask_leaves graph s)

pub mask-asked : (graph : List (List ℕ)) (s : Search) → mask_of graph (ask graph s).search ≡ mask_of graph s
mask-asked graph s = same_mask graph s (ask graph s).search (asked_bad graph s) (asked_goods graph s) (asked_mode graph s)

pub weights-asked : (graph : List (List ℕ)) (s : Search) → weights_of graph (ask graph s).search ≡ weights_of graph s
weights-asked graph s = same_weights graph s (ask graph s).search (asked_bad graph s) (asked_goods graph s) (asked_mode graph s)

pub needed-asked : (graph : List (List ℕ)) (s : Search) → weights_needed graph (ask graph s).search ≡ weights_needed graph s
needed-asked graph s =
    ap (λ (o : Option ℕ). weights_between graph (ask graph s).search o (ask graph s).search.goods) (asked_bad graph s)
    ∙ ap (λ (gs : List ℕ). weights_between graph (ask graph s).search s.bad gs) (asked_goods graph s)
    ∙ between s.bad s.goods
  where
    between : (o : Option ℕ) (goods : List ℕ) → weights_between graph (ask graph s).search o goods ≡ weights_between graph s o goods
    between None goods = refl
    between (Some bad) [] = refl
    between (Some bad) (good ∷ goods) =
        ap (λ (a : Asked). cond a.search.checked (Some (weights_of graph (ask graph s).search)) None) (ask_again graph s)
        ∙ ap (λ (ws : List ℕ). cond (ask graph s).search.checked (Some ws) None) (weights-asked graph s)

pub mask-skipped : (graph : List (List ℕ)) (s : Search) (p : ℕ) → mask_of graph (mark (ask graph s).search Skip p) ≡ mask_of graph s
unfolding mark
mask-skipped graph s p = same_mask graph s (mark (ask graph s).search Skip p) (asked_bad graph s) (asked_goods graph s) (asked_mode graph s)

pub weights-skipped : (graph : List (List ℕ)) (s : Search) (p : ℕ) → weights_of graph (mark (ask graph s).search Skip p) ≡ weights_of graph s
unfolding mark
weights-skipped graph s p = same_weights graph s (mark (ask graph s).search Skip p) (asked_bad graph s) (asked_goods graph s) (asked_mode graph s)

-- ---- after a good or bad mark

-- the row of the candidates, place by place
row_of : (graph : List (List ℕ)) (s : Search) (bad : ℕ) → s.bad ≡ Some bad → mask_of graph s ≡ map (λ p. is_candidate_of graph s p) (places graph)
unfolding candidate_row
row_of graph s bad b = subst (λ (o : Option ℕ). row_below graph o s ≡ map (λ p. is_candidate_below graph o s p) (places graph)) (sym b) refl

pub after_good : (graph : List (List ℕ)) (s : Search) (q p : ℕ) → IsGraph graph → (ask graph s).step.ask ≡ Test q
    → is_candidate_of graph (mark (ask graph s).search Good q) p ≡ (is_candidate_of graph s p && not (reaches graph q p))
unfolding mark is_candidate
after_good graph s q p g h =
    ap (λ (o : Option ℕ). is_candidate_below graph o (mark t Good q) p) (a.same.bad ∙ a.asks_for.bad_is)
    ∙ ap (λ (gs : List ℕ). is_candidate graph a.asks_for.bad gs t.first_parent p) goods_are
    ∙ ap (λ (f : Bool). is_candidate graph a.asks_for.bad (s.goods ++ q ∷ []) f p) a.same.first_parent
    ∙ ap (λ (b : Bool). reaches (in_mode graph s.first_parent) a.asks_for.bad p && not b) (any_reaches-push graph s.goods q p)
    ∙ split (reaches (in_mode graph s.first_parent) a.asks_for.bad p) (any_reaches graph s.goods p) (reaches graph q p)
    ∙ sym (ap (λ (o : Option ℕ). is_candidate_below graph o s p && not (reaches graph q p)) a.asks_for.bad_is)
  where
    t : Search
    t = (ask graph s).search

    a : Asking graph s (ask graph s) q
    a = asking graph s q g h

    goods_are : cond (has_place t.goods q) t.goods (t.goods ++ q ∷ []) ≡ s.goods ++ q ∷ []
    goods_are = cond-false (has_place t.goods q) t.goods (t.goods ++ q ∷ []) (ap (λ (gs : List ℕ). has_place gs q) a.same.goods ∙ a.asks_for.not_good) ∙ ap
        (λ (gs : List ℕ). gs ++ q ∷ []) a.same.goods

    split : (m d r : Bool) → (m && not (d || r)) ≡ ((m && not d) && not r)
    split true true r = refl
    split true false r = refl
    split false d r = refl

pub after_bad : (graph : List (List ℕ)) (s : Search) (q p : ℕ) → IsGraph graph → (ask graph s).step.ask ≡ Test q
    → is_candidate_of graph (mark (ask graph s).search Bad q) p ≡ (is_candidate_of graph s p && reaches (in_mode graph s.first_parent) q p)
unfolding mark is_candidate
after_bad graph s q p g h =
    after ∙ meet (is_candidate_of graph s p) (reaches (in_mode graph s.first_parent) a.asks_for.bad p) (reaches (in_mode graph s.first_parent) q p)
    (any_reaches graph s.goods p)
    (ap (λ (o : Option ℕ). is_candidate_below graph o s p) a.asks_for.bad_is) (λ k. other_in _ _ _ (guesses_part graph s q p g h) (after ∙ k))
  where
    t : Search
    t = (ask graph s).search

    a : Asking graph s (ask graph s) q
    a = asking graph s q g h

    after : is_candidate_of graph (mark t Bad q) p ≡ (reaches (in_mode graph s.first_parent) q p && not (any_reaches graph s.goods p))
    after =
        ap (λ (gs : List ℕ). is_candidate graph q gs t.first_parent p) a.same.goods
        ∙ ap (λ (f : Bool). is_candidate graph q s.goods f p) a.same.first_parent

    other_in : (whole one other : Bool) → IsParted whole one other → other ≡ true → whole ≡ true
    other_in whole true true k e = sym k.all
    other_in whole false true k e = sym k.all
    other_in whole one false k e = cc

    meet : (whole m n d : Bool) → whole ≡ (m && not d) → ((n && not d) ≡ true → whole ≡ true) → (n && not d) ≡ (whole && n)
    meet true m true false e k = refl
    meet true true true true e k = cc
    meet true false true true e k = cc
    meet true m false d e k = refl
    meet false m true false e k = sym (k refl)
    meet false m true true e k = refl
    meet false m false d e k = refl

kept_bad : (t : Search) (q : ℕ) → (mark t Good q).bad ≡ t.bad
unfolding mark
kept_bad t q = refl

new_bad : (t : Search) (q : ℕ) → (mark t Bad q).bad ≡ Some q
unfolding mark
new_bad t q = refl

pub mask-good : (graph : List (List ℕ)) (s : Search) (q : ℕ) → IsGraph graph → (ask graph s).step.ask ≡ Test q
    → mask_of graph (mark (ask graph s).search Good q) ≡ zip2 (λ mine theirs. mine && not theirs) (mask_of graph s) (reach_row graph q)
unfolding reach_row
mask-good graph s q g h =
    row_of graph (mark (ask graph s).search Good q) a.asks_for.bad (kept_bad (ask graph s).search q ∙ a.same.bad ∙ a.asks_for.bad_is)
    ∙ (λ i. map (λ p. after_good graph s q p g h i) (places graph))
    ∙ sym (zip2_of_maps (λ mine theirs. mine && not theirs) (λ p. is_candidate_of graph s p) (λ p. reaches graph q p) (places graph)
    (row_of graph s a.asks_for.bad a.asks_for.bad_is) refl)
  where
    a : Asking graph s (ask graph s) q
    a = asking graph s q g h

pub mask-bad : (graph : List (List ℕ)) (s : Search) (q : ℕ) → IsGraph graph → (ask graph s).step.ask ≡ Test q
    → mask_of graph (mark (ask graph s).search Bad q) ≡ zip2 ◌&&◌ (mask_of graph s) (reach_row (in_mode graph s.first_parent) q)
unfolding reach_row
mask-bad graph s q g h =
    row_of graph (mark (ask graph s).search Bad q) q (new_bad (ask graph s).search q)
    ∙ (λ i. map (λ p. after_bad graph s q p g h i) (places graph))
    ∙ sym (zip2_of_maps ◌&&◌ (λ p. is_candidate_of graph s p) (λ p. reaches (in_mode graph s.first_parent) q p) (places graph)
    (row_of graph s a.asks_for.bad a.asks_for.bad_is)
    (ap (λ (n : ℕ). map (λ p. reaches (in_mode graph s.first_parent) q p) (range_with_len 0 n)) (length-in_mode graph s.first_parent)))
  where
    a : Asking graph s (ask graph s) q
    a = asking graph s q g h
