-- Lemmas on an ask, part by part.
use Rattle.std.proofs.Common.{◌≡◌, ℕ, ◌<◌, Bool, true, false, ◌==◌, cond, List, [], ◌∷◌, length, Option, Some, None, refl, sym, ap, ◌∙◌, subst}
use Rattle.std.specs.Option.{IfSome}
use Rattle.bf_graph.specs.Graph.{IsGraph}
use Rattle.bf_search.specs.declared.asks.Ask.{Ask}
use Rattle.bf_search.specs.declared.asks.Ask.TheVariants.{WaitBoth, WaitBad, WaitGood, Test, MergeBaseBad, GoodNotAncestor, BothSides, FirstBad, OnlySkipped}
use Rattle.bf_search.specs.declared.asks.Check.{Check}
use Rattle.bf_search.specs.declared.asks.Check.TheVariants.{Passed, Bad as BaseIsBad, Test as TestBase}
use Rattle.bf_search.specs.declared.asks.Step.{Step}
use Rattle.bf_search.specs.Bases.{check}
use Rattle.bf_search.specs.Candidates.{candidates, candidate_row, places_of, weights}
use Rattle.bf_search.specs.Choice.{best}
use Rattle.bf_search.specs.State.{Search, Asked, without_test, ask_best, ask_among, best_of, ask_candidates, ask_checked, ask_ends, ask}
use Rattle.bf_search.proofs.CandidateLemmas.{places_of-candidate_row}
use Rattle.bf_search.proofs.Turns.{asking}
use Rattle.bf_state.specs.Steps.{tested, ending, ask_of_best, IsDecision, followed}

-- ---- what an ask leaves in the search

abbrev pub Settles : Search → Asked → Type 0
Settles s asked = asked.search ≡ followed s s.checked (tested asked.step.ask)

best_settles : (s : Search) (warned ps : List ℕ) (chosen : Option ℕ) → Settles s (ask_best s warned ps chosen)
best_settles s warned ps (Some p) = refl
best_settles s warned ps None = refl

one_settles : (b : Bool) (s : Search) (bad : ℕ) (warned ps : List ℕ) (chosen : Option ℕ)
    → Settles s (cond b (without_test s warned (FirstBad bad)) (ask_best s warned ps chosen))
one_settles true s bad warned ps chosen = refl
one_settles false s bad warned ps chosen = best_settles s warned ps chosen

among_settles : (s : Search) (bad : ℕ) (warned ps : List ℕ) (chosen : Option ℕ) → Settles s (ask_among s bad warned ps chosen)
among_settles s bad warned [] chosen = refl
among_settles s bad warned (p ∷ []) chosen = one_settles (p == bad) s bad warned (p ∷ []) chosen
among_settles s bad warned (p ∷ q ∷ ps) chosen = best_settles s warned (p ∷ q ∷ ps) chosen

pub candidates_settle : (graph : List (List ℕ)) (s : Search) (bad : ℕ) (warned : List ℕ) → Settles s (ask_candidates graph s bad warned)
candidates_settle graph s bad warned = among_settles s bad warned (candidates graph bad s.goods s.first_parent) (best_of graph s bad)

-- an ask writes whether the check has passed, and the place that it asks for
abbrev Leaves : Search → Asked → Type 0
Leaves s asked = asked.search ≡ followed s asked.search.checked (tested asked.step.ask)

leaves_settled : (s t : Search) (asked : Asked) → ((b : Bool) (e : Option ℕ) → followed t b e ≡ followed s b e) → Settles t asked → Leaves s asked
leaves_settled s t asked same h =
    h ∙ same t.checked (tested asked.step.ask) ∙ ap (λ (b : Bool). followed s b (tested asked.step.ask)) (sym (ap (λ (u : Search). u.checked) h))

bad_leaves : (b : Bool) (s : Search) (p : ℕ) → Leaves s (without_test s [] (cond b (MergeBaseBad p) (GoodNotAncestor p)))
bad_leaves true s p = refl
bad_leaves false s p = refl

checked_leaves : (graph : List (List ℕ)) (s : Search) (bad : ℕ) (c : Check) → Leaves s (ask_checked graph s bad c)
checked_leaves graph s bad (TestBase p) = refl
checked_leaves graph s bad (BaseIsBad p) = bad_leaves s.bad_asked s p
checked_leaves graph s bad (Passed warned) = leaves_settled s (record s { checked = true }) (ask_candidates graph (record s { checked = true }) bad warned)
    (λ b e. refl) (candidates_settle graph (record s { checked = true }) bad warned)

known_leaves : (b : Bool) (graph : List (List ℕ)) (s : Search) (bad : ℕ) (c : Check)
    → Leaves s (cond b (ask_candidates graph s bad []) (ask_checked graph s bad c))
known_leaves true graph s bad c = leaves_settled s s (ask_candidates graph s bad []) (λ b e. refl) (candidates_settle graph s bad [])
known_leaves false graph s bad c = checked_leaves graph s bad c

ends_leave : (graph : List (List ℕ)) (s : Search) (bad : Option ℕ) (goods : List ℕ) → Leaves s (ask_ends graph s bad goods)
ends_leave graph s None [] = refl
ends_leave graph s None (good ∷ goods) = refl
ends_leave graph s (Some bad) [] = refl
ends_leave graph s (Some bad) (good ∷ goods) = known_leaves s.checked graph s bad (check graph bad s.goods s.skips)

pub ask_leaves : (graph : List (List ℕ)) (s : Search) → (ask graph s).search ≡ followed s (ask graph s).search.checked (tested (ask graph s).step.ask)
unfolding ask
ask_leaves graph s = ends_leave graph s s.bad s.goods

-- what a decision leaves is what the ask leaves
pub decision_leaves : (graph : List (List ℕ)) (s : Search) (passed : Bool) (next : Step) → IsDecision (ask graph s) passed next
    → followed s passed (tested next.ask) ≡ (ask graph s).search
decision_leaves graph s passed next d =
    ap (λ (b : Bool). followed s b (tested next.ask)) d.checked
    ∙ ap (λ (t : Step). followed s (ask graph s).search.checked (tested t.ask)) d.step
    ∙ sym (ask_leaves graph s)

-- the place that is asked is one of the graph
within : (n : ℕ) (a : Ask) → ((p : ℕ) → a ≡ Test p → p < n) → IfSome (tested a) (λ p. p < n)
within n (Test p) h = h p refl
within n WaitBoth h = tt
within n WaitBad h = tt
within n WaitGood h = tt
within n (MergeBaseBad p) h = tt
within n (GoodNotAncestor p) h = tt
within n (BothSides p) h = tt
within n (FirstBad p) h = tt
within n (OnlySkipped ps) h = tt

pub decision_within : (graph : List (List ℕ)) (s : Search) (passed : Bool) (next : Step) → IsGraph graph → IsDecision (ask graph s) passed next
    → IfSome (tested next.ask) (λ p. p < length graph)
decision_within graph s passed next g d =
    subst (λ (t : Step). IfSome (tested t.ask) (λ p. p < length graph)) (sym d.step)
    (within (length graph) (ask graph s).step.ask (λ p h. (asking graph s p g h).asks_for.within))

-- ---- the cases of an ask

pub ends_are : (graph : List (List ℕ)) (s : Search) (bad : Option ℕ) (goods : List ℕ) → s.bad ≡ bad → s.goods ≡ goods → ask graph s ≡ ask_ends graph s bad goods
unfolding ask
ends_are graph s bad goods b g = λ i. ask_ends graph s (b i) (g i)

decision_of : (asked whole : Asked) → whole ≡ asked → IsDecision whole asked.search.checked asked.step
decision_of asked whole e = record { checked = sym (ap (λ (a : Asked). a.search.checked) e); step = sym (ap (λ (a : Asked). a.step) e) }

pub decide_wait_both : (graph : List (List ℕ)) (s : Search) → s.bad ≡ None → s.goods ≡ []
    → IsDecision (ask graph s) s.checked (record { warned = []; ask = WaitBoth })
decide_wait_both graph s b g = decision_of (without_test s [] WaitBoth) (ask graph s) (ends_are graph s None [] b g)

no_bad : (graph : List (List ℕ)) (s : Search) (goods : List ℕ) → (goods ≡ [] → ⊥) → ask_ends graph s None goods ≡ without_test s [] WaitBad
no_bad graph s [] h = absurd (h refl)
no_bad graph s (good ∷ goods) h = refl

pub decide_wait_bad : (graph : List (List ℕ)) (s : Search) → s.bad ≡ None → (s.goods ≡ [] → ⊥)
    → IsDecision (ask graph s) s.checked (record { warned = []; ask = WaitBad })
decide_wait_bad graph s b g = decision_of (without_test s [] WaitBad) (ask graph s) (ends_are graph s None s.goods b refl ∙ no_bad graph s s.goods g)

pub decide_wait_good : (graph : List (List ℕ)) (s : Search) (bad : ℕ) → s.bad ≡ Some bad → s.goods ≡ []
    → IsDecision (ask graph s) s.checked (record { warned = []; ask = WaitGood })
decide_wait_good graph s bad b g = decision_of (without_test s [] WaitGood) (ask graph s) (ends_are graph s (Some bad) [] b g)

both_ends : (graph : List (List ℕ)) (s : Search) (bad : ℕ) (goods : List ℕ) → (goods ≡ [] → ⊥)
    → ask_ends graph s (Some bad) goods ≡ cond s.checked (ask_candidates graph s bad []) (ask_checked graph s bad (check graph bad s.goods s.skips))
both_ends graph s bad [] h = absurd (h refl)
both_ends graph s bad (good ∷ goods) h = refl

pub known_ends : (graph : List (List ℕ)) (s : Search) (bad : ℕ) → s.bad ≡ Some bad → (s.goods ≡ [] → ⊥)
    → ask graph s ≡ cond s.checked (ask_candidates graph s bad []) (ask_checked graph s bad (check graph bad s.goods s.skips))
known_ends graph s bad b g = ends_are graph s (Some bad) s.goods b refl ∙ both_ends graph s bad s.goods g

-- the step of an ask among candidates: the bases to warn of, and an ask that does not depend on them
best_step : (s t : Search) (warned ps : List ℕ) (chosen : Option ℕ)
    → (ask_best t warned ps chosen).step ≡ record { warned = warned; ask = (ask_best s [] ps chosen).step.ask }
best_step s t warned ps (Some p) = refl
best_step s t warned ps None = refl

one_step : (b : Bool) (s t : Search) (bad : ℕ) (warned ps : List ℕ) (chosen : Option ℕ)
    → (cond b (without_test t warned (FirstBad bad)) (ask_best t warned ps chosen)).step ≡ record
    { warned = warned; ask = (cond b (without_test s [] (FirstBad bad)) (ask_best s [] ps chosen)).step.ask }
one_step true s t bad warned ps chosen = refl
one_step false s t bad warned ps chosen = best_step s t warned ps chosen

pub among_step : (s t : Search) (bad : ℕ) (warned ps : List ℕ) (chosen : Option ℕ)
    → (ask_among t bad warned ps chosen).step ≡ record { warned = warned; ask = (ask_among s bad [] ps chosen).step.ask }
among_step s t bad warned [] chosen = refl
among_step s t bad warned (p ∷ []) chosen = one_step (p == bad) s t bad warned (p ∷ []) chosen
among_step s t bad warned (p ∷ q ∷ ps) chosen = best_step s t warned (p ∷ q ∷ ps) chosen

-- whether the check has passed plays no part in it
passed_step : (graph : List (List ℕ)) (s : Search) (bad : ℕ) (warned : List ℕ)
    → (ask_candidates graph (record s { checked = true }) bad warned).step ≡ record { warned = warned; ask = (ask_candidates graph s bad []).step.ask }
unfolding best_of
passed_step graph s bad warned = among_step s (record s { checked = true }) bad warned (candidates graph bad s.goods s.first_parent) (best_of graph s bad)

pub decide_passed : (graph : List (List ℕ)) (s : Search) (bad : ℕ) (warned : List ℕ) (a : Ask) → a ≡ (ask_candidates graph s bad []).step.ask
    → IsDecision (ask_checked graph s bad (Passed warned)) true (record { warned = warned; ask = a })
decide_passed graph s bad warned a e = record {
  checked = sym (ap (λ (t : Search). t.checked) (candidates_settle graph (record s { checked = true }) bad warned));
  step = ap (λ (x : Ask). record { warned = warned; ask = x }) e ∙ sym (passed_step graph s bad warned);
}

pub decision_same : {asked : Asked} {passed passed' : Bool} {next next' : Step} → passed' ≡ passed → next' ≡ next → IsDecision asked passed next
    → IsDecision asked passed' next'
decision_same p n d = record { checked = p ∙ d.checked; step = n ∙ d.step }

-- ---- the ask among candidates

-- the best candidate, by the row of the candidates
pub best_by_row : (graph : List (List ℕ)) (s : Search) (bad : ℕ) (mask skips : List Bool) (first_parent : Bool)
    → mask ≡ candidate_row graph bad s.goods s.first_parent → first_parent ≡ s.first_parent → skips ≡ s.skips
    → best mask (weights graph mask first_parent) bad skips ≡ best_of graph s bad
unfolding best_of
best_by_row graph s bad mask skips first_parent m f k = λ i. best (m i) (weights graph (m i) (f i)) bad (k i)

-- the places of the row are the candidates
pub listed : (graph : List (List ℕ)) (s : Search) (bad : ℕ) (goods : List ℕ) (first_parent : Bool) (mask : List Bool) (ps : List ℕ) → ps ≡ places_of mask
    → mask ≡ candidate_row graph bad goods first_parent → goods ≡ s.goods → first_parent ≡ s.first_parent
    → ps ≡ candidates graph bad s.goods s.first_parent
listed graph s bad goods first_parent mask ps p m g f = p ∙ ap places_of m ∙ (λ i. places_of (candidate_row graph bad (g i) (f i))) ∙ places_of-candidate_row
    graph bad s.goods s.first_parent

pub best_is : (s : Search) (warned ps : List ℕ) (chosen : Option ℕ) → (ask_best s warned ps chosen).step.ask ≡ ask_of_best ps chosen
best_is s warned ps (Some p) = refl
best_is s warned ps None = refl

one_ends : (b : Bool) (s : Search) (bad : ℕ) (warned ps : List ℕ) (chosen : Option ℕ) (a : Ask) → cond b (Some (FirstBad bad)) None ≡ Some a
    → (cond b (without_test s warned (FirstBad bad)) (ask_best s warned ps chosen)).step.ask ≡ a
one_ends true s bad warned ps chosen a h = cc
one_ends false s bad warned ps chosen a h = cc

pub among_ends : (s : Search) (bad : ℕ) (warned ps : List ℕ) (chosen : Option ℕ) (a : Ask) → ending ps bad ≡ Some a
    → (ask_among s bad warned ps chosen).step.ask ≡ a
among_ends s bad warned [] chosen a h = cc
among_ends s bad warned (p ∷ []) chosen a h = one_ends (p == bad) s bad warned (p ∷ []) chosen a h
among_ends s bad warned (p ∷ q ∷ ps) chosen a h = cc

one_is_best : (b : Bool) (s : Search) (bad : ℕ) (warned ps : List ℕ) (chosen : Option ℕ) → cond b (Some (FirstBad bad)) None ≡ None
    → (cond b (without_test s warned (FirstBad bad)) (ask_best s warned ps chosen)).step.ask ≡ ask_of_best ps chosen
one_is_best true s bad warned ps chosen h = cc
one_is_best false s bad warned ps chosen h = best_is s warned ps chosen

pub among_is_best : (s : Search) (bad : ℕ) (warned ps : List ℕ) (chosen : Option ℕ) → ending ps bad ≡ None
    → (ask_among s bad warned ps chosen).step.ask ≡ ask_of_best ps chosen
among_is_best s bad warned [] chosen h = cc
among_is_best s bad warned (p ∷ []) chosen h = one_is_best (p == bad) s bad warned (p ∷ []) chosen h
among_is_best s bad warned (p ∷ q ∷ ps) chosen h = best_is s warned (p ∷ q ∷ ps) chosen
