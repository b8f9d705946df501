-- Each place is asked by at most one path.
use Rattle.std.proofs.Common.{◌≡◌, ℕ, zero, suc, ◌<◌, ◌≤◌, ◌⊎◌, Bool, true, false, not, ◌&&◌, ◌==◌, cond, List, [], ◌∷◌, length, Option, Some, None, refl, sym}
use Rattle.std.proofs.Common.{ap, ◌∙◌, subst, inl, inr, ⊎_elim, arith, eq-eqb, zero-add}
use Rattle.std.proofs.lemmas.Bool.{and_parts, and_from, not-true, not_from_false, false_from_ne_true, cases_Bool, both_ways, cond-true, cond-false}
use Rattle.std.proofs.lemmas.List.Folds.{Any-from_list_any}
use Rattle.std.proofs.lemmas.List.FromFn.{length-range_with_len, get_or-range_with_len}
use Rattle.std.proofs.lemmas.List.Elements.{All-contains, filter_passes}
use Rattle.std.specs.List.{Any, Contains, list_any, list_all, filter}
use Rattle.bf_graph.specs.Graph.{IsGraph}
use Rattle.bf_search.specs.declared.asks.Ask.TheVariants.{Test, MergeBaseBad, GoodNotAncestor, FirstBad}
use Rattle.bf_search.specs.declared.asks.Check.{Check}
use Rattle.bf_search.specs.declared.asks.Check.TheVariants.{Passed, Bad as BaseIsBad, Test as TestBase}
use Rattle.bf_search.specs.declared.outcomes.Mark.{Mark}
use Rattle.bf_search.specs.declared.outcomes.Mark.TheVariants.{Good, Bad, Skip}
use Rattle.bf_search.specs.declared.outcomes.Outcome.{Outcome}
use Rattle.bf_search.specs.declared.outcomes.Verdict.{Verdict}
use Rattle.bf_search.specs.declared.outcomes.Verdict.TheVariants.{Mark as MarkOf}
use Rattle.bf_search.specs.Outcomes.{Outcomes}
use Rattle.bf_search.specs.Reach.{places, Reaches, reaches, any_reaches}
use Rattle.bf_search.specs.Candidates.{is_candidate, candidates}
use Rattle.bf_search.specs.Bases.{has_place, common_places, tops, merge_bases, reaches_all, check_bases, check}
use Rattle.bf_search.specs.State.{Search, Asked, IsSearchOver, without_test, ask_best, ask_among, best_of, ask_candidates, ask_checked, ask_ends, is_expected}
use Rattle.bf_search.specs.State.{ask, mark}
use Rattle.bf_search.proofs.Reaching.{Reaches-from_test, reaches-true, Reaches-refl, Reaches-trans, Reaches-le}
use Rattle.bf_search.proofs.Turns.{Asking, asking, has_place-true, IsSearchOver-marked}
use Rattle.bf_search.specs.Guesses.{is_candidate_below, is_candidate_of, IsParted}
use Rattle.bf_search.specs.OpenPaths.{Allows, Leads}
use Rattle.bf_state.proofs.Parted.{best_is_candidate, check_reaches, guesses_part}
use Rattle.bf_state.proofs.Shrinking.{candidate_before}
use Rattle.bf_state.proofs.AskedOnce.{not_again}

-- ---- once the check has passed, only candidates are asked, and it stays passed

best_chosen : (t : Search) (warned ps : List ℕ) (chosen : Option ℕ) (q : ℕ) → (ask_best t warned ps chosen).step.ask ≡ Test q → chosen ≡ Some q
best_chosen t warned ps (Some p) q h = cc
best_chosen t warned ps None q h = cc

one_chosen : (b : Bool) (t : Search) (bad : ℕ) (warned ps : List ℕ) (chosen : Option ℕ) (q : ℕ)
    → (cond b (without_test t warned (FirstBad bad)) (ask_best t warned ps chosen)).step.ask ≡ Test q → chosen ≡ Some q
one_chosen true t bad warned ps chosen q h = cc
one_chosen false t bad warned ps chosen q h = best_chosen t warned ps chosen q h

pub among_chosen : (t : Search) (bad : ℕ) (warned ps : List ℕ) (chosen : Option ℕ) (q : ℕ) → (ask_among t bad warned ps chosen).step.ask ≡ Test q
    → chosen ≡ Some q
among_chosen t bad warned [] chosen q h = cc
among_chosen t bad warned (p ∷ []) chosen q h = one_chosen (p == bad) t bad warned (p ∷ []) chosen q h
among_chosen t bad warned (p ∷ r ∷ ps) chosen q h = best_chosen t warned (p ∷ r ∷ ps) chosen q h

best_checked : (t : Search) (warned ps : List ℕ) (chosen : Option ℕ) → (ask_best t warned ps chosen).search.checked ≡ t.checked
best_checked t warned ps (Some p) = refl
best_checked t warned ps None = refl

one_checked : (b : Bool) (t : Search) (bad : ℕ) (warned ps : List ℕ) (chosen : Option ℕ)
    → (cond b (without_test t warned (FirstBad bad)) (ask_best t warned ps chosen)).search.checked ≡ t.checked
one_checked true t bad warned ps chosen = refl
one_checked false t bad warned ps chosen = best_checked t warned ps chosen

among_checked : (t : Search) (bad : ℕ) (warned ps : List ℕ) (chosen : Option ℕ) → (ask_among t bad warned ps chosen).search.checked ≡ t.checked
among_checked t bad warned [] chosen = refl
among_checked t bad warned (p ∷ []) chosen = one_checked (p == bad) t bad warned (p ∷ []) chosen
among_checked t bad warned (p ∷ r ∷ ps) chosen = best_checked t warned (p ∷ r ∷ ps) chosen

-- How a test was asked: among candidates, when the check has passed; or by the check, which has not.
pub data AskedBy (graph : List (List ℕ)) (s : Search) (asked : Asked) (q : ℕ) : Type 0 where
  among_candidates : asked.search.checked ≡ true → is_candidate_of graph s q ≡ true → AskedBy graph s asked q
  by_check : (bad : ℕ) → s.bad ≡ Some bad → (s.goods ≡ [] → ⊥) → s.checked ≡ false → check graph bad s.goods s.skips ≡ TestBase q → AskedBy graph s asked q

candidates_by : (graph : List (List ℕ)) (s t : Search) (bad : ℕ) (warned : List ℕ) (q : ℕ) → s.bad ≡ Some bad → t.goods ≡ s.goods
    → t.first_parent ≡ s.first_parent → t.checked ≡ true → (ask_candidates graph t bad warned).step.ask ≡ Test q
    → AskedBy graph s (ask_candidates graph t bad warned) q
candidates_by graph s t bad warned q b gs f c h =
    among_candidates
    (among_checked t bad warned (candidates graph bad t.goods t.first_parent) (best_of graph t bad) ∙ c)
    (ap (λ (o : Option ℕ). is_candidate_below graph o s q) b
    ∙ ap (λ (xs : List ℕ). is_candidate graph bad xs s.first_parent q) (sym gs) ∙ ap (λ (v : Bool). is_candidate graph bad t.goods v q) (sym f)
    ∙ best_is_candidate graph t bad q (among_chosen t bad warned (candidates graph bad t.goods t.first_parent) (best_of graph t bad) q h))

bad_base_asks_none : (v : Bool) (s : Search) (p q : ℕ) → (without_test s [] (cond v (MergeBaseBad p) (GoodNotAncestor p))).step.ask ≡ Test q → ⊥
bad_base_asks_none true s p q h = cc
bad_base_asks_none false s p q h = cc

checked_by : (graph : List (List ℕ)) (s : Search) (bad : ℕ) (c : Check) (q : ℕ) → s.bad ≡ Some bad → (s.goods ≡ [] → ⊥) → s.checked ≡ false
    → check graph bad s.goods s.skips ≡ c → (ask_checked graph s bad c).step.ask ≡ Test q
    → AskedBy graph s (ask_checked graph s bad c) q
checked_by graph s bad (TestBase p) q b n unpassed is h = let same : p ≡ q = cc in by_check bad b n unpassed (is ∙ ap (λ (x : ℕ). TestBase x) same)
checked_by graph s bad (BaseIsBad p) q b n unpassed is h = absurd (bad_base_asks_none s.bad_asked s p q h)
checked_by graph s bad (Passed warned) q b n unpassed is h = candidates_by graph s (record s { checked = true }) bad warned q b refl refl refl h

known_by : (v : Bool) (graph : List (List ℕ)) (s : Search) (bad q : ℕ) → s.bad ≡ Some bad → (s.goods ≡ [] → ⊥) → s.checked ≡ v
    → (cond v (ask_candidates graph s bad []) (ask_checked graph s bad (check graph bad s.goods s.skips))).step.ask ≡ Test q
    → AskedBy graph s (cond v (ask_candidates graph s bad []) (ask_checked graph s bad (check graph bad s.goods s.skips))) q
known_by true graph s bad q b n is h = candidates_by graph s s bad [] q b refl refl is h
known_by false graph s bad q b n is h = checked_by graph s bad (check graph bad s.goods s.skips) q b n is refl h

some_good : {goods : List ℕ} {good : ℕ} {others : List ℕ} → goods ≡ good ∷ others → goods ≡ [] → ⊥
some_good h e = cc

ends_by : (graph : List (List ℕ)) (s : Search) (found : Option ℕ) (goods : List ℕ) (q : ℕ) → s.bad ≡ found → s.goods ≡ goods
    → (ask_ends graph s found goods).step.ask ≡ Test q → AskedBy graph s (ask_ends graph s found goods) q
ends_by graph s None [] q b gs h = cc
ends_by graph s None (good ∷ goods) q b gs h = cc
ends_by graph s (Some bad) [] q b gs h = cc
ends_by graph s (Some bad) (good ∷ goods) q b gs h = known_by s.checked graph s bad q b (some_good gs) refl h

pub asked_by : (graph : List (List ℕ)) (s : Search) (q : ℕ) → (ask graph s).step.ask ≡ Test q → AskedBy graph s (ask graph s) q
unfolding ask
asked_by graph s q h = ends_by graph s s.bad s.goods q refl refl h

-- where the check has passed before, the place is a candidate, and the check has passed after
pub settled : (graph : List (List ℕ)) (s : Search) (q : ℕ) → (ask graph s).step.ask ≡ Test q → s.checked ≡ true
    → ((ask graph s).search.checked ≡ true) × (is_candidate_of graph s q ≡ true)
settled graph s q h passed = of_kind (asked_by graph s q h)
  where
    of_kind : AskedBy graph s (ask graph s) q → ((ask graph s).search.checked ≡ true) × (is_candidate_of graph s q ≡ true)
    of_kind (among_candidates c k) = (c, k)
    of_kind (by_check bad b n unpassed t) = absurd (both_ways s.checked unpassed passed)

pub expected_is : (graph : List (List ℕ)) (s : Search) (q : ℕ) → IsGraph graph → (ask graph s).step.ask ≡ Test q → is_expected (ask graph s).search q ≡ true
expected_is graph s q g h = rw (asking graph s q g h).expected (eq-eqb q q refl)

pub stays_checked : (graph : List (List ℕ)) (s : Search) (m : Mark) (q : ℕ) → IsGraph graph → (ask graph s).step.ask ≡ Test q
    → (ask graph s).search.checked ≡ true → (mark (ask graph s).search m q).checked ≡ true
unfolding mark
stays_checked graph s Good q g h c = and_from _ _ c (expected_is graph s q g h)
stays_checked graph s Bad q g h c = and_from _ _ c (expected_is graph s q g h)
stays_checked graph s Skip q g h c = c

-- so what is asked along a path from there is a candidate
pub candidate_along : (graph : List (List ℕ)) (known : Outcomes) (s : Search) (ms : List Mark) (p left : ℕ) → IsGraph graph → s.checked ≡ true
    → Leads graph known s ms p left → is_candidate_of graph s p ≡ true
candidate_along graph known s [] p left g c h = (settled graph s p h.0 c).1
candidate_along graph known s (m ∷ ms) p left g c h =
    candidate_before graph s m h.0 p g h.1
    (candidate_along graph known (mark (ask graph s).search m h.0) ms p left g (stays_checked graph s m h.0 g h.1 (settled graph s h.0 h.1 c).0) h.3)

-- ---- a merge base that is bad ends the path

all_more : (f h : ℕ → Bool) (xs : List ℕ) → ((x : ℕ) → f x ≡ true → h x ≡ true) → list_all f xs ≡ true → list_all h xs ≡ true
all_more f h [] more a = refl
all_more f h (x ∷ xs) more a =
    let parts = and_parts (f x) (list_all f xs) a in
    and_from (h x) (list_all h xs) (more x parts.0) (all_more f h xs more parts.1)

pub filter_has : (test : ℕ → Bool) (xs : List ℕ) (x : ℕ) → Contains xs x → test x ≡ true → Contains (filter test xs) x
filter_has test [] x c t = absurd (omega (arith, c.1))
filter_has test (y ∷ ys) x (zero, l, e) t =
    let here : test y ≡ true = ap test e ∙ t in
    let is : filter test (y ∷ ys) ≡ y ∷ filter test ys = cond-true (test y) (y ∷ filter test ys) (filter test ys) here in
    subst (λ (zs : List ℕ). Contains zs x) (sym is) (0, omega arith, e)
filter_has test (y ∷ ys) x (suc k, l, e) t =
    let rest : Contains (filter test ys) x = filter_has test ys x (k, omega arith, e) t in
    ⊎_elim
    (λ yes. subst (λ (zs : List ℕ). Contains zs x) (sym (cond-true (test y) (y ∷ filter test ys) (filter test ys) yes))
    (suc rest.0, omega (arith, rest.1), rest.2))
    (λ no_. subst (λ (zs : List ℕ). Contains zs x) (sym (cond-false (test y) (y ∷ filter test ys) (filter test ys) no_)) rest)
    (cases_Bool (test y))

-- a base of a bad place is the one base below itself
base_of_itself : (graph : List (List ℕ)) (q : ℕ) (goods : List ℕ) → IsGraph graph → q < length graph → any_reaches graph goods q ≡ true
    → has_place (merge_bases graph q goods) q ≡ true
unfolding merge_bases common_places
base_of_itself graph q goods g place reached =
    has_place-true (tops graph common) q (filter_has (λ p. not (list_any (λ r. not (r == p) && reaches graph r p) common)) common q in_common
    (not_from_false _ (false_from_ne_true _ top)))
  where
    common : List ℕ
    common = filter (λ p. reaches graph q p && any_reaches graph goods p) (places graph)

    in_common : Contains common q
    in_common = filter_has (λ p. reaches graph q p && any_reaches graph goods p) (places graph) q
        (q, omega (arith, length-range_with_len 0 (length graph)), get_or-range_with_len 0 (length graph) q q place ∙ zero-add q)
        (and_from _ _ (reaches-true graph q q g (Reaches-refl graph q)) reached)

    top : list_any (λ r. not (r == q) && reaches graph r q) common ≡ true → ⊥
    top h =
        let found : Any (λ r. (not (r == q) && reaches graph r q) ≡ true) common = Any-from_list_any (λ r. not (r == q) && reaches graph r q) common h in
        let parts = and_parts (not (found.1 == q)) (reaches graph found.1 q) found.4 in
        let below : (reaches graph q found.1 && any_reaches graph goods found.1) ≡ true =
        All-contains (λ r. (reaches graph q r && any_reaches graph goods r) ≡ true) common found.1
        (filter_passes (λ p. reaches graph q p && any_reaches graph goods p) (places graph)) (found.0, found.2, found.3) in
        let down : found.1 ≤ q = Reaches-le g (Reaches-from_test graph q found.1
        (and_parts (reaches graph q found.1) (any_reaches graph goods found.1) below).0) in
        let up : q ≤ found.1 = Reaches-le g (Reaches-from_test graph found.1 q parts.1) in
        both_ways (found.1 == q) (not-true _ parts.0) (eq-eqb found.1 q (omega arith))

reaches_all-above : (graph : List (List ℕ)) (bad q : ℕ) (goods : List ℕ) → IsGraph graph → Reaches graph bad q → reaches_all graph q goods ≡ true
    → reaches_all graph bad goods ≡ true
unfolding reaches_all
reaches_all-above graph bad q goods g down h = all_more (λ good. reaches graph q good) (λ good. reaches graph bad good) goods
    (λ x k. reaches-true graph bad x g (Reaches-trans down (Reaches-from_test graph q x k))) h

-- the check of a bad base says so
check_of_base : (graph : List (List ℕ)) (bad q : ℕ) (goods : List ℕ) (skips : List Bool) → IsGraph graph → q < length graph → Reaches graph bad q
    → check graph bad goods skips ≡ TestBase q → check graph q goods skips ≡ BaseIsBad q
unfolding check check_bases
check_of_base graph bad q goods skips g place down tested =
    cond-false (reaches_all graph q goods) (Passed []) (check_bases (merge_bases graph q goods) q goods skips) not_all
    ∙ cond-true (has_place (merge_bases graph q goods) q) (BaseIsBad q) _ (base_of_itself graph q goods g place (check_reaches graph bad goods skips q tested))
  where
    all_from_bad : reaches_all graph q goods ≡ true → reaches_all graph bad goods ≡ true
    all_from_bad h = reaches_all-above graph bad q goods g down h

    not_all : reaches_all graph q goods ≡ false
    not_all = false_from_ne_true (reaches_all graph q goods) (λ h.
        let clash : Passed [] ≡ TestBase q = sym (cond-true (reaches_all graph bad goods) (Passed [])
        (check_bases (merge_bases graph bad goods) bad goods skips) (all_from_bad h)) ∙ tested in cc)

both_ends : (graph : List (List ℕ)) (s : Search) (bad : ℕ) (goods : List ℕ) → (goods ≡ [] → ⊥)
    → ask_ends graph s (Some bad) goods ≡ cond s.checked (ask_candidates graph s bad []) (ask_checked graph s bad (check graph bad s.goods s.skips))
both_ends graph s bad [] h = absurd (h refl)
both_ends graph s bad (good ∷ goods) h = refl

ends_are : (graph : List (List ℕ)) (s : Search) (bad : ℕ) → s.bad ≡ Some bad → ask graph s ≡ ask_ends graph s (Some bad) s.goods
unfolding ask
ends_are graph s bad b = λ i. ask_ends graph s (b i) s.goods

-- an unchecked search whose check says that the bad place is a base asks for no test
asks_none : (graph : List (List ℕ)) (s : Search) (bad p : ℕ) → s.bad ≡ Some bad → (s.goods ≡ [] → ⊥) → s.checked ≡ false
    → check graph bad s.goods s.skips ≡ BaseIsBad bad → (ask graph s).step.ask ≡ Test p → ⊥
asks_none graph s bad p b n unpassed is h =
    bad_base_asks_none s.bad_asked s bad p (sym (ap (λ (a : Asked). a.step.ask) whole) ∙ h)
  where
    whole : ask graph s ≡ without_test s [] (cond s.bad_asked (MergeBaseBad bad) (GoodNotAncestor bad))
    whole =
        ends_are graph s bad b ∙ both_ends graph s bad s.goods n
        ∙ ap (λ (v : Bool). cond v (ask_candidates graph s bad []) (ask_checked graph s bad (check graph bad s.goods s.skips))) unpassed
        ∙ ap (λ (c : Check). ask_checked graph s bad c) is

-- after bad on an asked base, the check says that it is a base
pub check_after_bad : (graph : List (List ℕ)) (s : Search) (bad q : ℕ) → IsGraph graph → (ask graph s).step.ask ≡ Test q → s.bad ≡ Some bad
    → check graph bad s.goods s.skips ≡ TestBase q
    → check graph q (ask graph s).search.goods (ask graph s).search.skips ≡ BaseIsBad q
check_after_bad graph s bad q g h b tested =
    ap (λ (gs : List ℕ). check graph q gs (ask graph s).search.skips) a.same.goods ∙ ap (λ (ks : List Bool). check graph q s.goods ks) a.same.skips ∙
    check_of_base graph bad q s.goods s.skips g a.asks_for.within reached tested
  where
    a : Asking graph s (ask graph s) q
    a = asking graph s q g h

    reached : Reaches graph bad q
    reached = let same : a.asks_for.bad ≡ bad = some_same (sym a.asks_for.bad_is ∙ b) in subst (λ (x : ℕ). Reaches graph x q) same a.asks_for.reached
      where
        some_same : {x y : ℕ} → Some x ≡ Some y → x ≡ y
        some_same e = cc

pub bad_base_ends : (graph : List (List ℕ)) (s : Search) (bad q p : ℕ) → IsGraph graph → (ask graph s).step.ask ≡ Test q → (s.goods ≡ [] → ⊥) → s.bad ≡ Some bad
    → (ask graph s).search.checked ≡ false → check graph bad s.goods s.skips ≡ TestBase q
    → (ask graph (mark (ask graph s).search Bad q)).step.ask ≡ Test p → ⊥
unfolding mark
bad_base_ends graph s bad q p g h n b unpassed tested =
    asks_none graph (mark (ask graph s).search Bad q) q p refl (λ e. n (sym (asking graph s q g h).same.goods ∙ e))
    (ap (λ (v : Bool). v && is_expected (ask graph s).search q) unpassed)
    (check_after_bad graph s bad q g h b tested)

-- ---- the two guesses lead to different places

pub ends_at_once : (graph : List (List ℕ)) (known : Outcomes) (s : Search) (ms : List Mark) (p left : ℕ) → ((x : ℕ) → (ask graph s).step.ask ≡ Test x → ⊥)
    → Leads graph known s ms p left → ⊥
ends_at_once graph known s [] p left none h = none p h.0
ends_at_once graph known s (m ∷ ms) p left none h = none h.0 h.1

both : (whole one other : Bool) → IsParted whole one other → one ≡ true → other ≡ true → ⊥
both whole true true parted h k = both_ways true parted.apart refl
both whole true false parted h k = cc
both whole false other parted h k = cc

apart : (graph : List (List ℕ)) (known : Outcomes) (s : Search) (q : ℕ) (ms ns : List Mark) (p one two : ℕ) → IsGraph graph → (ask graph s).step.ask ≡ Test q
    → Leads graph known (mark (ask graph s).search Good q) ms p one → Leads graph known (mark (ask graph s).search Bad q) ns p two → ⊥
apart graph known s q ms ns p one two g h good bad = by_kind (asked_by graph s q h) (cases_Bool (ask graph s).search.checked)
  where
    by_kind : AskedBy graph s (ask graph s) q → ((ask graph s).search.checked ≡ true) ⊎ ((ask graph s).search.checked ≡ false) → ⊥
    by_kind k (inl c) =
        both _ _ _ (guesses_part graph s q p g h)
        (candidate_along graph known (mark (ask graph s).search Good q) ms p one g (stays_checked graph s Good q g h c) good)
        (candidate_along graph known (mark (ask graph s).search Bad q) ns p two g (stays_checked graph s Bad q g h c) bad)
    by_kind (among_candidates c k) (inr e) = both_ways _ e c
    by_kind (by_check b is n unpassed tested) (inr e) =
        ends_at_once graph known (mark (ask graph s).search Bad q) ns p two (λ x k. bad_base_ends graph s b q x g h n is e tested k) bad

-- Each place is asked by at most one path.
pub one_path : (graph : List (List ℕ)) (known : Outcomes) (s : Search) (ms ns : List Mark) (p one two : ℕ) → IsGraph graph → IsSearchOver graph s
    → Leads graph known s ms p one → Leads graph known s ns p two → ms ≡ ns
one_path graph known s [] [] p one two g over h k = refl
one_path graph known s [] (n ∷ ns) p one two g over h k =
    let same : k.0 ≡ p = test_same (sym k.1 ∙ h.0) in
    absurd (not_again graph known s n k.0 ns p two g over k.1 k.3 same)
  where
    test_same : {x y : ℕ} → Test x ≡ Test y → x ≡ y
    test_same e = cc
one_path graph known s (m ∷ ms) [] p one two g over h k =
    let same : h.0 ≡ p = test_same (sym h.1 ∙ k.0) in
    absurd (not_again graph known s m h.0 ms p one g over h.1 h.3 same)
  where
    test_same : {x y : ℕ} → Test x ≡ Test y → x ≡ y
    test_same e = cc
one_path graph known s (m ∷ ms) (n ∷ ns) p one two g over h k =
    by_marks m n (known h.0) h.2 (subst (λ (q : ℕ). Allows (known q) n) (sym same) k.2) h.3 moved
    (λ (t : Search) (o : IsSearchOver graph t) (x : Leads graph known t ms p one) (y : Leads graph known t ns p two). one_path graph known t ms ns p one two g o
    x y)
  where
    test_same : {x y : ℕ} → Test x ≡ Test y → x ≡ y
    test_same e = cc

    same : h.0 ≡ k.0
    same = test_same (sym h.1 ∙ k.1)

    moved : Leads graph known (mark (ask graph s).search n h.0) ns p two
    moved = subst (λ (q : ℕ). Leads graph known (mark (ask graph s).search n q) ns p two) (sym same) k.3

    forced : {x y : Mark} {v : Verdict} → v ≡ MarkOf x → v ≡ MarkOf y → x ≡ y
    forced d e = cc

    by_marks : (x y : Mark) (o : Option Outcome) → Allows o x → Allows o y → Leads graph known (mark (ask graph s).search x h.0) ms p one
        → Leads graph known (mark (ask graph s).search y h.0) ns p two
        → ((t : Search) → IsSearchOver graph t → Leads graph known t ms p one → Leads graph known t ns p two → ms ≡ ns) → x ∷ ms ≡ y ∷ ns
    by_marks x y (Some outcome) a b one_way other rest =
        let e : x ≡ y = forced a b in
        let tails : ms ≡ ns = rest (mark (ask graph s).search x h.0) (IsSearchOver-marked graph s x h.0 g over h.1) one_way
        (subst (λ (z : Mark). Leads graph known (mark (ask graph s).search z h.0) ns p two) (sym e) other) in
        cc
    by_marks Good Good None a b one_way other rest = ap (λ (zs : List Mark). Good ∷ zs)
        (rest (mark (ask graph s).search Good h.0) (IsSearchOver-marked graph s Good h.0 g over h.1) one_way other)
    by_marks Bad Bad None a b one_way other rest = ap (λ (zs : List Mark). Bad ∷ zs)
        (rest (mark (ask graph s).search Bad h.0) (IsSearchOver-marked graph s Bad h.0 g over h.1) one_way other)
    by_marks Good Bad None a b one_way other rest = absurd (apart graph known s h.0 ms ns p one two g h.1 one_way other)
    by_marks Bad Good None a b one_way other rest = absurd (apart graph known s h.0 ns ms p two one g h.1 other one_way)
    by_marks Skip y None a b one_way other rest = absurd a
    by_marks Good Skip None a b one_way other rest = absurd b
    by_marks Bad Skip None a b one_way other rest = absurd b
