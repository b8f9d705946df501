-- The way to a place: at an unknown outcome at most one guess leads on to it, and which one is told by reach.
use Rattle.std.proofs.Common.{◌≡◌, ℕ, ◌⊎◌, Bool, true, false, not, ◌&&◌, cond, List, [], ◌∷◌, ◌++◌, Option, None, sym, ap, ◌∙◌, inl, inr}
use Rattle.std.proofs.lemmas.Bool.{and_parts, not-true, false_from_ne_true, cases_Bool, both_ways, cond-false}
use Rattle.std.proofs.lemmas.List.Elements.{Contains-push}
use Rattle.bf_graph.specs.Graph.{IsGraph}
use Rattle.bf_search.specs.declared.asks.Ask.TheVariants.{Test}
use Rattle.bf_search.specs.declared.outcomes.Mark.{Mark}
use Rattle.bf_search.specs.declared.outcomes.Mark.TheVariants.{Good, Bad, Skip}
use Rattle.bf_search.specs.Outcomes.{Outcomes}
use Rattle.bf_search.specs.Bases.{has_place}
use Rattle.bf_search.specs.Reach.{in_mode, reaches, any_reaches}
use Rattle.bf_search.specs.Candidates.{is_candidate}
use Rattle.bf_search.specs.State.{Search, ask, mark}
use Rattle.bf_search.proofs.Reaching.{Reaches-from_test, reaches-true}
use Rattle.bf_search.proofs.Modes.{Reaches-in_mode}
use Rattle.bf_search.proofs.CandidateLemmas.{any_reaches-true}
use Rattle.bf_search.proofs.Turns.{Asking, asking}
use Rattle.bf_search.specs.Guesses.{is_candidate_below, is_candidate_of}
use Rattle.bf_search.specs.OpenPaths.{Allows, Leads}
use Rattle.bf_state.specs.Way.{way}
use Rattle.bf_state.proofs.OnePath.{AskedBy, among_candidates, by_check, asked_by, candidate_along, stays_checked, bad_base_ends, ends_at_once}

goods_push : (graph : List (List ℕ)) (goods : List ℕ) (q x : ℕ) → IsGraph graph → any_reaches graph (goods ++ q ∷ []) x ≡ false → reaches graph q x ≡ false
goods_push graph goods q x g h = false_from_ne_true (reaches graph q x) (λ r.
    both_ways (any_reaches graph (goods ++ q ∷ []) x) h
    (any_reaches-true graph (goods ++ q ∷ []) x g (record { source = q; among = Contains-push goods q; leads = Reaches-from_test graph q x r })))

missed_by_good : (graph : List (List ℕ)) (s : Search) (q x : ℕ) → IsGraph graph → (ask graph s).step.ask ≡ Test q
    → is_candidate_of graph (mark (ask graph s).search Good q) x ≡ true → reaches graph q x ≡ false
unfolding mark is_candidate
missed_by_good graph s q x g h c =
    goods_push graph s.goods q x g (not-true _ (and_parts (reaches (in_mode graph t.first_parent) a.asks_for.bad x)
    (not (any_reaches graph (s.goods ++ q ∷ []) x)) (sym after ∙ c)).1)
  where
    t : Search
    t = (ask graph s).search

    a : Asking graph s (ask graph s) q
    a = asking graph s q g h

    goods_are : cond (has_place t.goods q) t.goods (t.goods ++ q ∷ []) ≡ s.goods ++ q ∷ []
    goods_are = cond-false (has_place t.goods q) t.goods (t.goods ++ q ∷ []) (ap (λ (gs : List ℕ). has_place gs q) a.same.goods ∙ a.asks_for.not_good) ∙ ap
        (λ (gs : List ℕ). gs ++ q ∷ []) a.same.goods

    after : is_candidate_of graph (mark t Good q) x ≡ (reaches (in_mode graph t.first_parent) a.asks_for.bad x && not (any_reaches graph (s.goods ++ q ∷ []) x))
    after =
        ap (λ (o : Option ℕ). is_candidate_below graph o (mark t Good q) x) (a.same.bad ∙ a.asks_for.bad_is)
        ∙ ap (λ (gs : List ℕ). reaches (in_mode graph t.first_parent) a.asks_for.bad x && not (any_reaches graph gs x)) goods_are

reached_by_bad : (graph : List (List ℕ)) (s : Search) (q x : ℕ) → IsGraph graph → is_candidate_of graph (mark (ask graph s).search Bad q) x ≡ true
    → reaches graph q x ≡ true
unfolding mark is_candidate
reached_by_bad graph s q x g c =
    let t : Search = (ask graph s).search in
    reaches-true graph q x g (Reaches-in_mode graph t.first_parent q x
    (Reaches-from_test (in_mode graph t.first_parent) q x (and_parts (reaches (in_mode graph t.first_parent) q x) (not (any_reaches graph t.goods x)) c).0))

-- A path that guesses at a place and asks for x further on goes the way to x.
pub goes_the_way : (graph : List (List ℕ)) (known : Outcomes) (s : Search) (q : ℕ) (m : Mark) (ms : List Mark) (x left : ℕ) → IsGraph graph
    → (ask graph s).step.ask ≡ Test q → Allows None m
    → Leads graph known (mark (ask graph s).search m q) ms x left → m ≡ way graph (ask graph s).search q x
goes_the_way graph known s q Skip ms x left g h allows rest = absurd allows
goes_the_way graph known s q Good ms x left g h allows rest = by_checked (cases_Bool (ask graph s).search.checked)
  where
    by_checked : ((ask graph s).search.checked ≡ true) ⊎ ((ask graph s).search.checked ≡ false) → Good ≡ way graph (ask graph s).search q x
    by_checked (inl c) =
        sym (ap (λ (b : Bool). cond (b && reaches graph q x) Bad Good) c
        ∙ ap (λ (b : Bool). cond b Bad Good) (missed_by_good graph s q x g h
        (candidate_along graph known (mark (ask graph s).search Good q) ms x left g (stays_checked graph s Good q g h c) rest)))
    by_checked (inr e) = sym (ap (λ (b : Bool). cond (b && reaches graph q x) Bad Good) e)
goes_the_way graph known s q Bad ms x left g h allows rest = by_kind (asked_by graph s q h) (cases_Bool (ask graph s).search.checked)
  where
    by_kind : AskedBy graph s (ask graph s) q → ((ask graph s).search.checked ≡ true) ⊎ ((ask graph s).search.checked ≡ false)
        → Bad ≡ way graph (ask graph s).search q x
    by_kind k (inl c) =
        sym (ap (λ (b : Bool). cond (b && reaches graph q x) Bad Good) c
        ∙ ap (λ (b : Bool). cond b Bad Good) (reached_by_bad graph s q x g
        (candidate_along graph known (mark (ask graph s).search Bad q) ms x left g (stays_checked graph s Bad q g h c) rest)))
    by_kind (among_candidates c k) (inr e) = absurd (both_ways _ e c)
    by_kind (by_check b is n unpassed tested) (inr e) = absurd
        (ends_at_once graph known (mark (ask graph s).search Bad q) ms x left (λ y k. bad_base_ends graph s b q y g h n is e tested k) rest)
