-- The first bad commit: what it says that the bad place is the only candidate.
use Rattle.std.proofs.Common.{◌≡◌, ℕ, zero, suc, ◌<◌, Bool, true, false, ◌==◌, cond, List, [], ◌∷◌, length, get_or, Option, Some, None, refl, ap, ◌∙◌, subst}
use Rattle.std.proofs.Common.{⊎_elim, arith, eqb-true}
use Rattle.std.proofs.lemmas.Bool.{cases_Bool, both_ways}
use Rattle.std.proofs.lemmas.List.{get_or_default}
use Rattle.std.proofs.lemmas.List.Elements.{All-contains, filter_passes}
use Rattle.std.specs.Option.{IfSome}
use Rattle.std.specs.List.{All, Any, Contains}
use Rattle.bf_graph.specs.Graph.{parents_of, IsGraph}
use Rattle.bf_search.specs.declared.asks.Ask.TheVariants.{MergeBaseBad, GoodNotAncestor, FirstBad}
use Rattle.bf_search.specs.declared.asks.Check.{Check}
use Rattle.bf_search.specs.declared.asks.Check.TheVariants.{Passed, Bad as BaseIsBad, Test as TestBase}
use Rattle.bf_search.specs.Bases.{check}
use Rattle.bf_search.specs.Reach.{places, in_mode, Reaches, any_reaches}
use Rattle.bf_search.specs.Candidates.{is_candidate, candidates}
use Rattle.bf_search.specs.State.{Search, Asked, without_test, ask_best, ask_among, best_of, ask_candidates, ask_checked, ask_ends, ask}
use Rattle.bf_search.proofs.Reaching.{Reaches-parent}
use Rattle.bf_search.proofs.Modes.{IsGraph-in_mode}
use Rattle.bf_search.proofs.CandidateLemmas.{SomeReaches, SomeReaches-from_test, IsCandidate, IsCandidate-from_test, is_candidate-true, any_reaches-true}
use Rattle.bf_choice.proofs.Listed.{Contains-filter_range}
use Rattle.bf_state.specs.FirstBad.{IsFirstBad}
use Rattle.bf_state.specs.Session.{IsSearchBelow}

-- ---- an ask that says so has the bad place as its only candidate

abbrev SaysFirst : List (List ℕ) → Search → Asked → Type 0
SaysFirst graph s asked = (p : ℕ) → asked.step.ask ≡ FirstBad p → (s.bad ≡ Some p) × (candidates graph p s.goods s.first_parent ≡ p ∷ [])

best_first : (graph : List (List ℕ)) (s t : Search) (warned ps : List ℕ) (chosen : Option ℕ) → SaysFirst graph s (ask_best t warned ps chosen)
best_first graph s t warned ps (Some q) = λ p e. cc
best_first graph s t warned ps None = λ p e. cc

one_first : (b : Bool) (graph : List (List ℕ)) (s t : Search) (bad q : ℕ) (warned : List ℕ) (chosen : Option ℕ) → (q == bad) ≡ b → s.bad ≡ Some bad
    → candidates graph bad s.goods s.first_parent ≡ q ∷ []
    → SaysFirst graph s (cond b (without_test t warned (FirstBad bad)) (ask_best t warned (q ∷ []) chosen))
one_first true graph s t bad q warned chosen h bad_is only = λ p e.
    let same : bad ≡ p = cc in
    let q_is : q ≡ bad = eqb-true q bad h in
    subst (λ (x : ℕ). (s.bad ≡ Some x) × (candidates graph x s.goods s.first_parent ≡ x ∷ [])) same (bad_is, only ∙ ap (λ x. x ∷ []) q_is)
one_first false graph s t bad q warned chosen h bad_is only = best_first graph s t warned (q ∷ []) chosen

among_first : (graph : List (List ℕ)) (s t : Search) (bad : ℕ) (warned ps : List ℕ) (chosen : Option ℕ) → s.bad ≡ Some bad
    → candidates graph bad s.goods s.first_parent ≡ ps → SaysFirst graph s (ask_among t bad warned ps chosen)
among_first graph s t bad warned [] chosen bad_is only = λ p e. cc
among_first graph s t bad warned (q ∷ []) chosen bad_is only = one_first (q == bad) graph s t bad q warned chosen refl bad_is only
among_first graph s t bad warned (q ∷ r ∷ ps) chosen bad_is only = best_first graph s t warned (q ∷ r ∷ ps) chosen

bad_base_first : (b : Bool) (graph : List (List ℕ)) (s : Search) (q : ℕ) → SaysFirst graph s (without_test s [] (cond b (MergeBaseBad q) (GoodNotAncestor q)))
bad_base_first true graph s q = λ p e. cc
bad_base_first false graph s q = λ p e. cc

checked_first : (graph : List (List ℕ)) (s : Search) (bad : ℕ) (c : Check) → s.bad ≡ Some bad → SaysFirst graph s (ask_checked graph s bad c)
checked_first graph s bad (TestBase q) bad_is = λ p e. cc
checked_first graph s bad (BaseIsBad q) bad_is = bad_base_first s.bad_asked graph s q
checked_first graph s bad (Passed warned) bad_is = among_first graph s (record s { checked = true }) bad warned (candidates graph bad s.goods s.first_parent)
    (best_of graph (record s { checked = true }) bad) bad_is refl

known_first : (b : Bool) (graph : List (List ℕ)) (s : Search) (bad : ℕ) (c : Check) → s.bad ≡ Some bad
    → SaysFirst graph s (cond b (ask_candidates graph s bad []) (ask_checked graph s bad c))
known_first true graph s bad c bad_is = among_first graph s s bad [] (candidates graph bad s.goods s.first_parent) (best_of graph s bad) bad_is refl
known_first false graph s bad c bad_is = checked_first graph s bad c bad_is

ends_first : (graph : List (List ℕ)) (s : Search) (bad : Option ℕ) (goods : List ℕ) → s.bad ≡ bad → SaysFirst graph s (ask_ends graph s bad goods)
ends_first graph s None [] bad_is = λ p e. cc
ends_first graph s None (good ∷ goods) bad_is = λ p e. cc
ends_first graph s (Some bad) [] bad_is = λ p e. cc
ends_first graph s (Some bad) (good ∷ goods) bad_is = known_first s.checked graph s bad (check graph bad s.goods s.skips) bad_is

says_first : (graph : List (List ℕ)) (s : Search) → SaysFirst graph s (ask graph s)
unfolding ask
says_first graph s = ends_first graph s s.bad s.goods refl

-- ---- what follows for the bad place

pub only_has : (p q : ℕ) → Contains (p ∷ []) q → p ≡ q
only_has p q (zero, l, e) = e
only_has p q (suc k, l, e) = absurd (omega arith)

pub first_bad : (graph : List (List ℕ)) (s : Search) (p : ℕ) → IsGraph graph → IsSearchBelow (length graph) s → (ask graph s).step.ask ≡ FirstBad p
    → IsFirstBad graph s p
unfolding candidates
first_bad graph s p g below h = record {
  is_bad = told.0;
  not_good = λ k d l r. here.not_good (record { source = get_or s.goods k d; among = (k, l, get_or_default s.goods k (get_or s.goods k d) d l); leads = r });
  good_parents = λ k d l. from_good (get_or (parents_of (in_mode graph s.first_parent) p) k d)
      (k, l, get_or_default (parents_of (in_mode graph s.first_parent) p) k (get_or (parents_of (in_mode graph s.first_parent) p) k d) d l);
}
  where
    told : (s.bad ≡ Some p) × (candidates graph p s.goods s.first_parent ≡ p ∷ [])
    told = says_first graph s p h

    place : p < length graph
    place = subst (λ (b : Option ℕ). IfSome b (λ q. q < length graph)) told.0 below.bad

    passes : is_candidate graph p s.goods s.first_parent p ≡ true
    passes = All-contains (λ q. is_candidate graph p s.goods s.first_parent q ≡ true) (p ∷ []) p
        (subst (λ (ps : List ℕ). All (λ q. is_candidate graph p s.goods s.first_parent q ≡ true) ps) told.1
        (filter_passes (λ q. is_candidate graph p s.goods s.first_parent q) (places graph)))
        (0, omega arith, refl)

    here : IsCandidate graph p s.goods s.first_parent p
    here = IsCandidate-from_test graph p s.goods s.first_parent p g passes

    some : (q : ℕ) → SomeReaches graph s.goods q → Any (λ good. Reaches graph good q) s.goods
    some q r = (r.among.0, r.source, r.among.1, r.among.2, r.leads)

    from_good : (q : ℕ) → Contains (parents_of (in_mode graph s.first_parent) p) q → Any (λ good. Reaches graph good q) s.goods
    from_good q step =
        let lower : q < p = All-contains (λ parent. parent < p) (parents_of (in_mode graph s.first_parent) p) q
        ((IsGraph-in_mode graph s.first_parent g).earlier p) step in
        ⊎_elim
        (λ reached. some q (SomeReaches-from_test graph s.goods q reached))
        (λ missed.
        let candidate : IsCandidate graph p s.goods s.first_parent q = record
        { reached = Reaches-parent step; not_good = λ r. both_ways _ missed (any_reaches-true graph s.goods q g r) } in
        let listed : Contains (candidates graph p s.goods s.first_parent) q = Contains-filter_range (λ r. is_candidate graph p s.goods s.first_parent r) 0
        (length graph) q (omega arith) (omega (arith, place)) (is_candidate-true graph p s.goods s.first_parent q g candidate) in
        let same : p ≡ q = only_has p q (subst (λ (ps : List ℕ). Contains ps q) told.1 listed) in
        absurd (omega arith))
        (cases_Bool (any_reaches graph s.goods q))
