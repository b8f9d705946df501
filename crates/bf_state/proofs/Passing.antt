-- How far an ask goes without its candidates, and how it goes on over them.
use Rattle.std.proofs.Common.{◌≡◌, ℕ, ◌<◌, ◌≤◌, Bool, true, false, ◌==◌, cond, List, [], ◌∷◌, length, Option, Some, None, refl, sym, ap, ◌∙◌, subst}
use Rattle.std.proofs.lemmas.List.{length-replicate}
use Rattle.std.specs.List.{All}
use Rattle.std.specs.Option.{IfSome}
use Rattle.bf_search.specs.declared.asks.Ask.{Ask}
use Rattle.bf_search.specs.declared.asks.Ask.TheVariants.{FirstBad}
use Rattle.bf_search.specs.declared.asks.Check.{Check}
use Rattle.bf_search.specs.declared.asks.Step.{Step}
use Rattle.bf_search.specs.declared.outcomes.Mark.TheVariants.{Skip}
use Rattle.bf_search.specs.Bases.{check}
use Rattle.bf_search.specs.Candidates.{candidates, candidate_row, weights, IsCandidateRow}
use Rattle.bf_search.specs.Choice.{count_in, best}
use Rattle.bf_search.specs.State.{Search, Asked, without_test, ask_best, ask_among, best_of, ask_candidates, ask_checked, ask, mark}
use Rattle.bf_search.proofs.CandidateLemmas.{places_of-candidate_row, length-candidate_row}
use Rattle.bf_state.specs.declared.asking.Passage.{Passage}
use Rattle.bf_state.specs.declared.asking.Passage.TheVariants.{Asks, Passed}
use Rattle.bf_state.specs.Session.{Session, with_search, IsSearchBelow}
use Rattle.bf_state.specs.Steps.{ending, ask_listed, ask_over, IsDecision, IsStopped, HasPassed, IsPassage, passed_after, warned_after}
use Rattle.bf_state.specs.Weighed.{row_below, mask_of, weights_of, weights_between, weights_needed}
use Rattle.bf_state.proofs.Asks.{candidates_settle, ask_leaves, known_ends, decide_passed, among_step, best_is}
use Rattle.bf_state.proofs.Weighing.{length-weights, weights_within}

-- ---- the check

pub stopped_without_bad : (graph : List (List ℕ)) (s : Search) (next : Step) → s.bad ≡ None → IsDecision (ask graph s) s.checked next
    → IsStopped (ask graph s) s next
stopped_without_bad graph s next b d = record { decides = d; unpassed = λ bad e g. absurd (apart (sym b ∙ e)) }
  where
    apart : {x : ℕ} → None ≡ Some x → ⊥
    apart e = cc

pub stopped_without_good : (graph : List (List ℕ)) (s : Search) (next : Step) → s.goods ≡ [] → IsDecision (ask graph s) s.checked next
    → IsStopped (ask graph s) s next
stopped_without_good graph s next none d = record { decides = d; unpassed = λ bad e g. absurd (g none) }

-- where the check has passed before, it is not made
pub passes_checked : (graph : List (List ℕ)) (s : Search) (bad : ℕ) (warned : List ℕ) → s.bad ≡ Some bad → (s.goods ≡ [] → ⊥) → s.checked ≡ true → warned ≡ []
    → HasPassed graph (ask graph s) s warned bad
passes_checked graph s bad warned b g c w = record {
  bad_is = b;
  some_good = g;
  asks = known_ends graph s bad b g
      ∙ ap (λ (v : Bool). cond v (ask_candidates graph s bad []) (ask_checked graph s bad (check graph bad s.goods s.skips))) c
      ∙ ap (λ (v : Bool). ask_candidates graph (record s { checked = v }) bad []) c
      ∙ ap (λ (ps : List ℕ). ask_candidates graph (record s { checked = true }) bad ps) (sym w);
}

pub passes_by_check : (graph : List (List ℕ)) (s : Search) (bad : ℕ) (c : Check) (passage : Passage) → s.bad ≡ Some bad → (s.goods ≡ [] → ⊥) → s.checked ≡ false
    → c ≡ check graph bad s.goods s.skips
    → IsPassage graph (ask_checked graph s bad c) s passage → IsPassage graph (ask graph s) s passage
passes_by_check graph s bad c passage b g f e p =
    subst (λ (x : Asked). IsPassage graph x s passage) (ap (λ (k : Check). ask_checked graph s bad k) e ∙ sym whole) p
  where
    whole : ask graph s ≡ ask_checked graph s bad (check graph bad s.goods s.skips)
    whole = known_ends graph s bad b g ∙ ap (λ (v : Bool). cond v (ask_candidates graph s bad []) (ask_checked graph s bad (check graph bad s.goods s.skips))) f

-- ---- what is known then

pub passed_is : (graph : List (List ℕ)) (s : Search) (passage : Passage) → IsPassage graph (ask graph s) s passage
    → passed_after s.checked passage ≡ (ask graph s).search.checked
passed_is graph s (Asks next) p = p.decides.checked
passed_is graph s (Passed warned bad) p =
    sym (ap (λ (x : Asked). x.search.checked) p.asks ∙ ap (λ (t : Search). t.checked) (candidates_settle graph (record s { checked = true }) bad warned))

pub warned_is : (graph : List (List ℕ)) (s : Search) (passage : Passage) → IsPassage graph (ask graph s) s passage
    → warned_after passage ≡ (ask graph s).step.warned
warned_is graph s (Asks next) p = ap (λ (t : Step). t.warned) p.decides.step
warned_is graph s (Passed warned bad) p =
    sym (ap (λ (x : Asked). x.step.warned) p.asks
    ∙ ap (λ (t : Step). t.warned) (among_step s (record s { checked = true }) bad warned (candidates graph bad s.goods s.first_parent)
    (best_of graph (record s { checked = true }) bad)))

-- what an ask chooses plays no part in a skip
pub skip_taken : (graph : List (List ℕ)) (v : Session) (p : ℕ) (passed : Bool) → passed ≡ (ask graph v.search).search.checked
    → with_search v (mark (record v.search { checked = passed }) Skip p) ≡ with_search v (mark (ask graph v.search).search Skip p)
unfolding mark
skip_taken graph v p passed h =
    ap (λ (b : Bool). with_search v (mark (record v.search { checked = b }) Skip p)) h
    ∙ sym (ap (λ (t : Search). with_search v (mark t Skip p)) (ask_leaves graph v.search))

-- ---- the ask over the candidates

-- where the check has passed, the ask is among the candidates
pub decide_among : (graph : List (List ℕ)) (s : Search) (bad : ℕ) (warned : List ℕ) (a : Ask) → HasPassed graph (ask graph s) s warned bad
    → a ≡ (ask_candidates graph s bad []).step.ask
    → IsDecision (ask graph s) true (record { warned = warned; ask = a })
decide_among graph s bad warned a p e = subst (λ (x : Asked). IsDecision x true (record { warned = warned; ask = a })) (sym p.asks)
    (decide_passed graph s bad warned a e)

one_listed : (b : Bool) (s : Search) (bad : ℕ) (ps : List ℕ) (chosen : Option ℕ)
    → ask_listed (cond b (Some (FirstBad bad)) None) ps chosen ≡ (cond b (without_test s [] (FirstBad bad)) (ask_best s [] ps chosen)).step.ask
one_listed true s bad ps chosen = refl
one_listed false s bad ps chosen = sym (best_is s [] ps chosen)

listed_is : (s : Search) (bad : ℕ) (ps : List ℕ) (chosen : Option ℕ) → ask_listed (ending ps bad) ps chosen ≡ (ask_among s bad [] ps chosen).step.ask
listed_is s bad [] chosen = refl
listed_is s bad (p ∷ []) chosen = one_listed (p == bad) s bad (p ∷ []) chosen
listed_is s bad (p ∷ q ∷ ps) chosen = sym (best_is s [] (p ∷ q ∷ ps) chosen)

row_is : (graph : List (List ℕ)) (s : Search) (bad : ℕ) → s.bad ≡ Some bad → mask_of graph s ≡ candidate_row graph bad s.goods s.first_parent
row_is graph s bad b = ap (λ (o : Option ℕ). row_below graph o s) b

pub asks_over : (graph : List (List ℕ)) (s : Search) (bad : ℕ) (mask : List Bool) (all : List ℕ) → s.bad ≡ Some bad → mask ≡ mask_of graph s
    → all ≡ weights_of graph s
    → ask_over mask all bad s.skips ≡ (ask_candidates graph s bad []).step.ask
unfolding best_of
asks_over graph s bad mask all b m w =
    ap (λ (r : List Bool). ask_over r all bad s.skips) (m ∙ row_is graph s bad b)
    ∙ ap (λ (ws : List ℕ). ask_over row ws bad s.skips) (w ∙ ap (λ (r : List Bool). weights graph r s.first_parent) (row_is graph s bad b))
    ∙ ap (λ (ps : List ℕ). ask_listed (ending ps bad) ps (best row (weights graph row s.first_parent) bad s.skips))
    (places_of-candidate_row graph bad s.goods s.first_parent)
    ∙ listed_is s bad (candidates graph bad s.goods s.first_parent) (best row (weights graph row s.first_parent) bad s.skips)
  where
    row : List Bool
    row = candidate_row graph bad s.goods s.first_parent

pub decide_over : (graph : List (List ℕ)) (s : Search) (bad : ℕ) (warned : List ℕ) (mask : List Bool) (all : List ℕ) (a : Ask)
    → HasPassed graph (ask graph s) s warned bad
    → mask ≡ mask_of graph s → all ≡ weights_of graph s → a ≡ ask_over mask all bad s.skips
    → IsDecision (ask graph s) true (record { warned = warned; ask = a })
decide_over graph s bad warned mask all a p m w e = decide_among graph s bad warned a p (e ∙ asks_over graph s bad mask all p.bad_is m w)

-- ---- rows and weights

length-row_below : (graph : List (List ℕ)) (s : Search) (o : Option ℕ) → length (row_below graph o s) ≡ length graph
length-row_below graph s None = length-replicate (length graph) false
length-row_below graph s (Some bad) = length-candidate_row graph bad s.goods s.first_parent

pub length-mask : (graph : List (List ℕ)) (s : Search) (mask : List Bool) → mask ≡ mask_of graph s → length mask ≡ length graph
length-mask graph s mask m = ap length m ∙ length-row_below graph s s.bad

pub length-all : (graph : List (List ℕ)) (s : Search) (mask : List Bool) (all : List ℕ) → mask ≡ mask_of graph s → all ≡ weights_of graph s
    → length all ≡ length mask
length-all graph s mask all m w = ap length w ∙ length-weights graph (mask_of graph s) s.first_parent ∙ sym (length-mask graph s mask m)

pub all_within : (graph : List (List ℕ)) (s : Search) (mask : List Bool) (all : List ℕ) → mask ≡ mask_of graph s → all ≡ weights_of graph s
    → All (λ w. w ≤ count_in mask) all
all_within graph s mask all m w =
    rw (m, w) (weights_within graph (mask_of graph s) s.first_parent (length-row_below graph s s.bad))

pub candidates_of_row : (graph : List (List ℕ)) (len : ℕ) (s : Search) (bad : ℕ) (mask : List Bool) → length graph ≡ len → IsSearchBelow len s
    → s.bad ≡ Some bad → mask ≡ mask_of graph s → IsCandidateRow graph s.first_parent mask
candidates_of_row graph len s bad mask l below b m = record {
  bad = bad;
  goods = s.goods;
  bad_is_place = place;
  goods_are_places = (subst (λ (n : ℕ). IsSearchBelow n s) (sym l) below).goods;
  has_candidates = m ∙ row_is graph s bad b;
}
  where
    place : bad < length graph
    place = subst (λ (o : Option ℕ). IfSome o (λ p. p < length graph)) b (subst (λ (n : ℕ). IsSearchBelow n s) (sym l) below).bad

pub needs_none : (graph : List (List ℕ)) (s : Search) (next : Step) → IsStopped (ask graph s) s next → weights_needed graph s ≡ None
needs_none graph s next stopped = by_ends s.bad s.goods refl refl
  where
    by_ends : (o : Option ℕ) (goods : List ℕ) → s.bad ≡ o → s.goods ≡ goods → weights_between graph s o goods ≡ None
    by_ends None goods b g = refl
    by_ends (Some bad) [] b g = refl
    by_ends (Some bad) (good ∷ goods) b g =
        ap (λ (v : Bool). cond v (Some (weights_of graph s)) None) (sym stopped.decides.checked ∙ stopped.unpassed bad b (λ e. apart (sym g ∙ e)))
      where
        apart : {x : ℕ} {xs : List ℕ} → x ∷ xs ≡ [] → ⊥
        apart e = cc

pub needs_all : (graph : List (List ℕ)) (s : Search) (warned : List ℕ) (bad : ℕ) → HasPassed graph (ask graph s) s warned bad
    → weights_needed graph s ≡ Some (weights_of graph s)
needs_all graph s warned bad p = by_ends s.bad s.goods p.bad_is p.some_good
  where
    by_ends : (o : Option ℕ) (goods : List ℕ) → o ≡ Some bad → (goods ≡ [] → ⊥) → weights_between graph s o goods ≡ Some (weights_of graph s)
    by_ends None goods b g = cc
    by_ends (Some found) [] b g = absurd (g refl)
    by_ends (Some found) (good ∷ goods) b g = ap (λ (v : Bool). cond v (Some (weights_of graph s)) None) (sym (passed_is graph s (Passed warned bad) p))

-- weights that are needed are those of the candidates
pub needed_are : (graph : List (List ℕ)) (s : Search) (all : List ℕ) → weights_needed graph s ≡ Some all → all ≡ weights_of graph s
needed_are graph s all h = by_ends s.bad s.goods h
  where
    by_test : (b : Bool) → cond b (Some (weights_of graph s)) None ≡ Some all → all ≡ weights_of graph s
    by_test true k = cc
    by_test false k = cc

    by_ends : (o : Option ℕ) (goods : List ℕ) → weights_between graph s o goods ≡ Some all → all ≡ weights_of graph s
    by_ends None goods k = cc
    by_ends (Some bad) [] k = cc
    by_ends (Some bad) (good ∷ goods) k = by_test (ask graph s).search.checked k
