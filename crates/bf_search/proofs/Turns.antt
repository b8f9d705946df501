-- The turns of a run are never spent: no place is asked twice, so a run goes on turn by turn.
use Rattle.std.proofs.Common.{◌≡◌, ℕ, zero, suc, ◌+◌, ◌<◌, ◌≤◌, Bool, true, false, not, ◌&&◌, ◌||◌, ◌==◌, cond, List, [], ◌∷◌, ◌++◌, length, set, map, Option}
use Rattle.std.proofs.Common.{Some, None, refl, ap, sym, ◌∙◌, subst, ⊎_elim, arith, eqb-true, eq-eqb, zero-add}
use Rattle.std.proofs.lemmas.Bool.{and_parts, and_from, or_parts, not-true, not_from_false, false_from_ne_true, both_ways, cases_Bool, cond-true, cond-false}
use Rattle.std.proofs.lemmas.Bool.{ne_eqb}
use Rattle.std.proofs.lemmas.List.{length-set, get_or-set_same}
use Rattle.std.proofs.lemmas.List.Elements.{All-contains, All-filter, All-push, filter_passes}
use Rattle.std.proofs.lemmas.List.Folds.{Any-from_list_any, list_any-from_Any, list_any-append}
use Rattle.std.proofs.lemmas.List.FromFn.{length-range_with_len, get_or-range_with_len}
use Rattle.std.proofs.lemmas.List.Sums.{count_by-le-length, sum_by-cons}
use Rattle.std.specs.List.{All, Any, Contains, list_any, filter, find, count_by, range_with_len}
use Rattle.bf_graph.specs.Graph.{IsGraph}
use Rattle.bf_search.specs.declared.asks.Ask.{Ask}
use Rattle.bf_search.specs.declared.asks.Ask.TheVariants.{WaitBoth, WaitBad, WaitGood, Test, MergeBaseBad, GoodNotAncestor, BothSides, FirstBad, OnlySkipped}
use Rattle.bf_search.specs.declared.asks.Check.{Check}
use Rattle.bf_search.specs.declared.asks.Check.TheVariants.{Passed, Bad as BaseIsBad, Test as TestBase}
use Rattle.bf_search.specs.declared.entries.Entry.TheVariants.{Marked, SkippedBase}
use Rattle.bf_search.specs.declared.outcomes.Mark.{Mark}
use Rattle.bf_search.specs.declared.outcomes.Mark.TheVariants.{Good, Bad, Skip}
use Rattle.bf_search.specs.declared.outcomes.Outcome.{Outcome}
use Rattle.bf_search.specs.declared.outcomes.Verdict.{Verdict}
use Rattle.bf_search.specs.declared.outcomes.Verdict.TheVariants.{Mark as MarkOf, Abort}
use Rattle.bf_search.specs.Reach.{places, Reaches, reaches, any_reaches}
use Rattle.bf_search.specs.Candidates.{is_in, candidates, candidate_row}
use Rattle.bf_search.specs.Choice.{is_eligible, eligible, best}
use Rattle.bf_search.specs.Bases.{has_place, common_places, merge_bases, reaches_all, check_open, check_bases, check}
use Rattle.bf_search.specs.Outcomes.{Outcomes, verdict_of}
use Rattle.bf_search.specs.State.{Search, IsSearchOver, Asked, with_test, without_test, ask_best, ask_among, best_of, ask_candidates, ask_checked, ask_ends}
use Rattle.bf_search.specs.State.{ask, mark}
use Rattle.bf_search.specs.LeftToAsk.{is_below, may_ask, left_to_ask}
use Rattle.bf_search.specs.Run.{Run, with_entries, with_used, marked_one, after_verdict, after_look, after_step, turn, run_within, run}
use Rattle.bf_search.proofs.Reaching.{Reaches-from_test, reaches-true, Reaches-refl, Reaches-trans, Reaches-le}
use Rattle.bf_search.proofs.Modes.{Reaches-in_mode}
use Rattle.bf_search.proofs.CandidateLemmas.{SomeReaches, IsCandidate, IsCandidate-from_test, is_in-candidate_row, length-candidate_row}
use Rattle.bf_search.proofs.RowLemmas.{set-kept}

-- ---- lists

pub find_tells : (test : ℕ → Bool) (xs : List ℕ) (x : ℕ) → find test xs ≡ Some x → Contains xs x × (test x ≡ true)
find_tells test [] x h = cc
find_tells test (y ∷ ys) x h =
    ⊎_elim
    (λ yes.
    let same : Some y ≡ Some x = sym (cond-true (test y) (Some y) (find test ys) yes) ∙ h in
    let e : y ≡ x = cc in
    ((0, omega arith, e), subst (λ (z : ℕ). test z ≡ true) e yes))
    (λ not_here.
    let rest = find_tells test ys x (sym (cond-false (test y) (Some y) (find test ys) not_here) ∙ h) in
    ((suc rest.0.0, omega (arith, rest.0.1), rest.0.2), rest.1))
    (cases_Bool (test y))

pub has_place-true : (ps : List ℕ) (p : ℕ) → Contains ps p → has_place ps p ≡ true
has_place-true ps p h = list_any-from_Any (λ q. q == p) ps (h.0, p, h.1, h.2, eq-eqb p p refl)

pub range_within : (n : ℕ) → All (λ p. p < n) (range_with_len 0 n)
range_within n = λ k d l.
    let short : k < n = omega (arith, length-range_with_len 0 n) in
    rw (get_or-range_with_len 0 n k d short) (omega arith)

pub count_as : (f : ℕ → Bool) (x : ℕ) (xs : List ℕ) (b : Bool) → f x ≡ b → count_by f (x ∷ xs) ≡ cond b 1 0 + count_by f xs
count_as f x xs b e = sum_by-cons (λ y. cond (f y) 1 0) x xs ∙ ap (λ (v : Bool). cond v 1 0 + count_by f xs) e

-- a test that tells more passes at least as often
pub count_le : (f g : ℕ → Bool) (xs : List ℕ) → ((q : ℕ) → f q ≡ true → g q ≡ true) → count_by f xs ≤ count_by g xs
count_le f g [] h = omega arith
count_le f g (x ∷ xs) h =
    ⊎_elim
    (λ yes. omega (arith, count_as f x xs true yes, count_as g x xs true (h x yes), count_le f g xs h))
    (λ fails. omega (arith, count_as f x xs false fails, sum_by-cons (λ y. cond (g y) 1 0) x xs, count_le f g xs h))
    (cases_Bool (f x))

-- and more often where it passes at some place and the other test fails there
pub count_lt : (f g : ℕ → Bool) (xs : List ℕ) (p : ℕ) → ((q : ℕ) → f q ≡ true → g q ≡ true) → Contains xs p → f p ≡ false → g p ≡ true
    → count_by f xs < count_by g xs
count_lt f g [] p h c fp gp = absurd (omega (arith, c.1))
count_lt f g (x ∷ xs) p h (zero, l, e) fp gp =
    omega (arith, count_as f x xs false (ap f e ∙ fp), count_as g x xs true (ap g e ∙ gp), count_le f g xs h)
count_lt f g (x ∷ xs) p h (suc k, l, e) fp gp =
    let rest : count_by f xs < count_by g xs = count_lt f g xs p h (k, omega arith, e) fp gp in
    ⊎_elim
    (λ yes. omega (arith, count_as f x xs true yes, count_as g x xs true (h x yes), rest))
    (λ fails. omega (arith, count_as f x xs false fails, sum_by-cons (λ y. cond (g y) 1 0) x xs, rest))
    (cases_Bool (f x))

-- ---- what an ask for a test says

-- The place that is asked: the bad place reaches it, and it is neither the bad one nor good nor skipped.
pub record AsksFor (graph : List (List ℕ)) (s : Search) (p : ℕ) : Type 0 where
  pub bad : ℕ
  pub bad_is : s.bad ≡ Some bad
  pub within : p < length graph
  pub reached : Reaches graph bad p
  pub not_bad : p ≡ bad → ⊥
  pub not_good : has_place s.goods p ≡ false
  pub not_skipped : is_in s.skips p ≡ false

-- the same ends and skips
pub record SameMarks (s t : Search) : Type 0 where
  pub first_parent : t.first_parent ≡ s.first_parent
  pub bad : t.bad ≡ s.bad
  pub goods : t.goods ≡ s.goods
  pub skips : t.skips ≡ s.skips

pub best_tells : (graph : List (List ℕ)) (s : Search) (bad p : ℕ) → IsGraph graph → s.bad ≡ Some bad → best_of graph s bad ≡ Some p → AsksFor graph s p
unfolding best_of best
best_tells graph s bad p g bad_is h = record {
  bad = bad;
  bad_is = bad_is;
  within = place;
  reached = Reaches-in_mode graph s.first_parent bad p candidate.reached;
  not_bad = λ e. both_ways (p == bad) (not-true _ first.1) (eq-eqb p bad e);
  not_good = false_from_ne_true (has_place s.goods p) (λ k. candidate.not_good (good_reaches k));
  not_skipped = not-true _ parts.1;
}
  where
    mask : List Bool
    mask = candidate_row graph bad s.goods s.first_parent

    found : Contains (eligible mask bad s.skips) p
    found = (find_tells _ (eligible mask bad s.skips) p h).0

    passes : is_eligible mask bad s.skips p ≡ true
    passes = All-contains (λ q. is_eligible mask bad s.skips q ≡ true) (eligible mask bad s.skips) p
        (filter_passes (λ q. is_eligible mask bad s.skips q) (range_with_len 0 (length mask))) found

    parts : ((is_in mask p && not (p == bad)) ≡ true) × (not (is_in s.skips p) ≡ true)
    parts = and_parts (is_in mask p && not (p == bad)) (not (is_in s.skips p)) passes

    first : (is_in mask p ≡ true) × (not (p == bad) ≡ true)
    first = and_parts (is_in mask p) (not (p == bad)) parts.0

    short : p < length mask
    short = All-contains (λ q. q < length mask) (eligible mask bad s.skips) p
        (All-filter (λ q. is_eligible mask bad s.skips q) (λ q. q < length mask) (range_with_len 0 (length mask)) (range_within (length mask))) found

    place : p < length graph
    place = omega (arith, short, length-candidate_row graph bad s.goods s.first_parent)

    candidate : IsCandidate graph bad s.goods s.first_parent p
    candidate = IsCandidate-from_test graph bad s.goods s.first_parent p g (sym (is_in-candidate_row graph bad s.goods s.first_parent p place) ∙ first.0)

    good_reaches : has_place s.goods p ≡ true → SomeReaches graph s.goods p
    good_reaches k =
        let found_good : Any (λ q. (q == p) ≡ true) s.goods = Any-from_list_any (λ q. q == p) s.goods k in
        let same : found_good.1 ≡ p = eqb-true found_good.1 p found_good.4 in
        record {
          source = found_good.1;
          among = (found_good.0, found_good.2, found_good.3);
          leads = subst (λ (x : ℕ). Reaches graph found_good.1 x) same
              (Reaches-refl graph found_good.1);
        }

-- the check asks for a merge base alone
check_open_tells : (o : Option ℕ) (bases goods : List ℕ) (skips : List Bool) (p : ℕ) → check_open o bases goods skips ≡ TestBase p → o ≡ Some p
check_open_tells None bases goods skips p h = cc
check_open_tells (Some q) bases goods skips p h = cc

pub common_tell : (graph : List (List ℕ)) (bad : ℕ) (goods : List ℕ) (p : ℕ) → Contains (merge_bases graph bad goods) p
    → (p < length graph) × Reaches graph bad p
unfolding merge_bases common_places
common_tell graph bad goods p h = (
  All-contains (λ q. q < length graph) (merge_bases graph bad goods) p
      (All-filter (λ q. not (list_any (λ r. not (r == q) && reaches graph r q) common)) (λ q. q < length graph) common
      (All-filter (λ q. reaches graph bad q && any_reaches graph goods q) (λ q. q < length graph) (places graph) (range_within (length graph)))) h,
  Reaches-from_test graph bad p
      (and_parts (reaches graph bad p) (any_reaches graph goods p)
      (All-contains (λ q. (reaches graph bad q && any_reaches graph goods q) ≡ true) (merge_bases graph bad goods) p
      (All-filter (λ q. not (list_any (λ r. not (r == q) && reaches graph r q) common)) (λ q. (reaches graph bad q && any_reaches graph goods q) ≡ true) common
      (filter_passes (λ q. reaches graph bad q && any_reaches graph goods q) (places graph))) h)).0,
)
  where
    common : List ℕ
    common = filter (λ q. reaches graph bad q && any_reaches graph goods q) (places graph)

pub check_bases_tells : (bases : List ℕ) (bad : ℕ) (goods : List ℕ) (skips : List Bool) (p : ℕ) → check_bases bases bad goods skips ≡ TestBase p
    → (has_place bases bad ≡ false) × Contains bases p × (has_place goods p ≡ false) × (is_in skips p ≡ false)
unfolding check_bases
check_bases_tells bases bad goods skips p h =
    ⊎_elim
    (λ yes. let clash : BaseIsBad bad ≡ TestBase p = sym (cond-true (has_place bases bad) (BaseIsBad bad) _ yes) ∙ h in cc)
    (λ not_base.
    let opened : check_open (find test bases) bases goods skips ≡ TestBase p = sym (cond-false (has_place bases bad) (BaseIsBad bad) _ not_base) ∙ h in
    let found = find_tells test bases p (check_open_tells (find test bases) bases goods skips p opened) in
    let both = and_parts (not (has_place goods p)) (not (is_in skips p)) found.1 in
    (not_base, found.0, not-true _ both.0, not-true _ both.1))
    (cases_Bool (has_place bases bad))
  where
    test : ℕ → Bool
    test q = not (has_place goods q) && not (is_in skips q)

pub check_tells : (graph : List (List ℕ)) (s : Search) (bad p : ℕ) → s.bad ≡ Some bad → check graph bad s.goods s.skips ≡ TestBase p → AsksFor graph s p
unfolding check
check_tells graph s bad p bad_is h =
    ⊎_elim
    (λ yes. let clash : Passed [] ≡ TestBase p = sym (cond-true (reaches_all graph bad s.goods) (Passed []) _ yes) ∙ h in cc)
    (λ not_all.
    let facts = check_bases_tells (merge_bases graph bad s.goods) bad s.goods s.skips p
    (sym (cond-false (reaches_all graph bad s.goods) (Passed []) _ not_all) ∙ h) in
    let where_ = common_tell graph bad s.goods p facts.1 in
    record {
      bad = bad;
      bad_is = bad_is;
      within = where_.0;
      reached = where_.1;
      not_bad = λ e. both_ways (has_place (merge_bases graph bad s.goods) bad) facts.0
          (has_place-true (merge_bases graph bad s.goods) bad (subst (λ (x : ℕ). Contains (merge_bases graph bad s.goods) x) e facts.1));
      not_good = facts.2;
      not_skipped = facts.3;
    })
    (cases_Bool (reaches_all graph bad s.goods))

-- what follows from an ask that asks for p
pub record Asking (graph : List (List ℕ)) (s : Search) (asked : Asked) (p : ℕ) : Type 0 where
  pub asks_for : AsksFor graph s p
  pub same : SameMarks s asked.search
  pub expected : asked.search.expected ≡ Some p

abbrev IfAsks : List (List ℕ) → Search → Asked → Type 0
IfAsks graph s asked = (p : ℕ) → asked.step.ask ≡ Test p → Asking graph s asked p

test_is : (graph : List (List ℕ)) (s : Search) (warned : List ℕ) (p q : ℕ) → AsksFor graph s p → Test p ≡ Test q → Asking graph s (with_test s warned p) q
test_is graph s warned p q a e =
    let same : p ≡ q = cc in
    record {
      asks_for = subst (λ (x : ℕ). AsksFor graph s x) same a;
      same = record { first_parent = refl; bad = refl; goods = refl; skips = refl };
      expected =
          ap (λ (x : ℕ). Some x) same;
    }

best_asks : (graph : List (List ℕ)) (s : Search) (warned ps : List ℕ) (chosen : Option ℕ) → ((p : ℕ) → chosen ≡ Some p → AsksFor graph s p)
    → IfAsks graph s (ask_best s warned ps chosen)
best_asks graph s warned ps (Some p) a = λ q e. test_is graph s warned p q (a p refl) e
best_asks graph s warned ps None a = λ q e. cc

one_asks : (b : Bool) (graph : List (List ℕ)) (s : Search) (bad : ℕ) (warned ps : List ℕ) (chosen : Option ℕ) → ((p : ℕ) → chosen ≡ Some p → AsksFor graph s p)
    → IfAsks graph s (cond b (without_test s warned (FirstBad bad)) (ask_best s warned ps chosen))
one_asks true graph s bad warned ps chosen a = λ q e. cc
one_asks false graph s bad warned ps chosen a = best_asks graph s warned ps chosen a

among_asks : (graph : List (List ℕ)) (s : Search) (bad : ℕ) (warned ps : List ℕ) (chosen : Option ℕ) → ((p : ℕ) → chosen ≡ Some p → AsksFor graph s p)
    → IfAsks graph s (ask_among s bad warned ps chosen)
among_asks graph s bad warned [] chosen a = λ q e. cc
among_asks graph s bad warned (p ∷ []) chosen a = one_asks (p == bad) graph s bad warned (p ∷ []) chosen a
among_asks graph s bad warned (p ∷ q ∷ ps) chosen a = best_asks graph s warned (p ∷ q ∷ ps) chosen a

candidates_ask : (graph : List (List ℕ)) (s : Search) (bad : ℕ) (warned : List ℕ) → IsGraph graph → s.bad ≡ Some bad
    → IfAsks graph s (ask_candidates graph s bad warned)
candidates_ask graph s bad warned g bad_is = among_asks graph s bad warned (candidates graph bad s.goods s.first_parent) (best_of graph s bad)
    (λ p h. best_tells graph s bad p g bad_is h)

-- a state of which only the check is now known to have passed
passed_ask : (graph : List (List ℕ)) (s : Search) (bad : ℕ) (warned : List ℕ) → IsGraph graph → s.bad ≡ Some bad
    → IfAsks graph s (ask_candidates graph (record s { checked = true }) bad warned)
passed_ask graph s bad warned g bad_is = λ p h.
    let a : Asking graph (record s { checked = true }) (ask_candidates graph (record s { checked = true }) bad warned) p = candidates_ask graph
    (record s { checked = true }) bad warned g bad_is p h in
    record {
      asks_for = record {
        bad = a.asks_for.bad;
        bad_is = a.asks_for.bad_is;
        within = a.asks_for.within;
        reached = a.asks_for.reached;
        not_bad = a.asks_for.not_bad;
        not_good = a.asks_for.not_good;
        not_skipped = a.asks_for.not_skipped;
      };
      same = record { first_parent = a.same.first_parent; bad = a.same.bad; goods = a.same.goods; skips = a.same.skips };
      expected = a.expected;
    }

checked_asks : (graph : List (List ℕ)) (s : Search) (bad : ℕ) (c : Check) → IsGraph graph → s.bad ≡ Some bad → ((p : ℕ) → c ≡ TestBase p → AsksFor graph s p)
    → IfAsks graph s (ask_checked graph s bad c)
checked_asks graph s bad (TestBase p) g bad_is a = λ q e. test_is graph s [] p q (a p refl) e
checked_asks graph s bad (BaseIsBad p) g bad_is a = λ q e. ask_of_bad s.bad_asked q e
  where
    ask_of_bad : (b : Bool) (q : ℕ) → cond b (MergeBaseBad p) (GoodNotAncestor p) ≡ Test q → Asking graph s (ask_checked graph s bad (BaseIsBad p)) q
    ask_of_bad true q e = cc
    ask_of_bad false q e = cc
checked_asks graph s bad (Passed warned) g bad_is a = passed_ask graph s bad warned g bad_is

known_asks : (b : Bool) (graph : List (List ℕ)) (s : Search) (bad : ℕ) → IsGraph graph → s.bad ≡ Some bad
    → IfAsks graph s (cond b (ask_candidates graph s bad []) (ask_checked graph s bad (check graph bad s.goods s.skips)))
known_asks true graph s bad g bad_is = candidates_ask graph s bad [] g bad_is
known_asks false graph s bad g bad_is = checked_asks graph s bad (check graph bad s.goods s.skips) g bad_is (λ p h. check_tells graph s bad p bad_is h)

ends_ask : (graph : List (List ℕ)) (s : Search) (bad : Option ℕ) (goods : List ℕ) → IsGraph graph → s.bad ≡ bad → IfAsks graph s (ask_ends graph s bad goods)
ends_ask graph s None [] g bad_is = λ q e. cc
ends_ask graph s None (good ∷ goods) g bad_is = λ q e. cc
ends_ask graph s (Some bad) [] g bad_is = λ q e. cc
ends_ask graph s (Some bad) (good ∷ goods) g bad_is = known_asks s.checked graph s bad g bad_is

-- The place of an ask is one that the search may ask for.
pub asking : (graph : List (List ℕ)) (s : Search) (p : ℕ) → IsGraph graph → (ask graph s).step.ask ≡ Test p → Asking graph s (ask graph s) p
unfolding ask
asking graph s p g h = ends_ask graph s s.bad s.goods g refl p h

-- ---- the places that are left to ask

-- a place that may be asked, in parts
pub record MayAsk (graph : List (List ℕ)) (s : Search) (q : ℕ) : Type 0 where
  pub below : is_below graph s.bad q ≡ true
  pub not_good : has_place s.goods q ≡ false
  pub not_skipped : is_in s.skips q ≡ false

pub may_ask_parts : (graph : List (List ℕ)) (s : Search) (q : ℕ) → may_ask graph s q ≡ true → MayAsk graph s q
may_ask_parts graph s q h =
    let outer = and_parts (is_below graph s.bad q && not (has_place s.goods q)) (not (is_in s.skips q)) h in
    let inner = and_parts (is_below graph s.bad q) (not (has_place s.goods q)) outer.0 in
    record { below = inner.0; not_good = not-true _ inner.1; not_skipped = not-true _ outer.1 }

pub may_ask_from : (graph : List (List ℕ)) (s : Search) (q : ℕ) → MayAsk graph s q → may_ask graph s q ≡ true
may_ask_from graph s q m = and_from _ _ (and_from _ _ m.below (not_from_false _ m.not_good)) (not_from_false _ m.not_skipped)

pub may_ask_asked : (graph : List (List ℕ)) (s : Search) (p : ℕ) → IsGraph graph → AsksFor graph s p → may_ask graph s p ≡ true
may_ask_asked graph s p g a = may_ask_from graph s p (record {
  below = subst (λ (b : Option ℕ). is_below graph b p ≡ true) (sym a.bad_is)
      (and_from _ _ (reaches-true graph a.bad p g a.reached) (not_from_false _ (ne_eqb p a.bad a.not_bad)));
  not_good = a.not_good;
  not_skipped = a.not_skipped;
})

-- the goods with one more place
pub has_place-push : (ps : List ℕ) (p q : ℕ) → has_place (ps ++ p ∷ []) q ≡ false → (has_place ps q ≡ false) × (p ≡ q → ⊥)
has_place-push ps p q h =
    let parts = or_parts (has_place ps q) ((p == q) || false) (sym (list_any-append (λ r. r == q) ps (p ∷ [])) ∙ h) in
    (parts.0, λ e. both_ways ((p == q) || false) parts.1 (rw (eq-eqb p q e) refl))

-- after a mark of the asked place no place may be asked that might not before, and that place no more
pub shrinks : (graph : List (List ℕ)) (s t : Search) (m : Mark) (p q : ℕ) → IsGraph graph → AsksFor graph s p → SameMarks s t → p < length s.skips
    → may_ask graph (mark t m p) q ≡ true → MayAsk graph s q × (p ≡ q → ⊥)
unfolding mark
shrinks graph s t Good p q g a same room h =
    let now : MayAsk graph (mark t Good p) q = may_ask_parts graph (mark t Good p) q h in
    let fresh : has_place t.goods p ≡ false = rw same.goods a.not_good in
    let goods_are : cond (has_place t.goods p) t.goods (t.goods ++ p ∷ []) ≡ t.goods ++ p ∷ [] = cond-false (has_place t.goods p) t.goods (t.goods ++ p ∷ [])
    fresh in
    let parts = has_place-push t.goods p q (subst (λ (gs : List ℕ). has_place gs q ≡ false) goods_are now.not_good) in (
      record {
        below = subst (λ (b : Option ℕ). is_below graph b q ≡ true) same.bad now.below;
        not_good = subst (λ (gs : List ℕ). has_place gs q ≡ false) same.goods parts.0;
        not_skipped = subst (λ (ks : List Bool). is_in ks q ≡ false) same.skips now.not_skipped;
      },
      parts.1,
    )
shrinks graph s t Bad p q g a same room h =
    let now : MayAsk graph (mark t Bad p) q = may_ask_parts graph (mark t Bad p) q h in
    let parts = and_parts (reaches graph p q) (not (q == p)) now.below in
    let down : Reaches graph p q = Reaches-from_test graph p q parts.0 in
    let lower : q ≤ p = Reaches-le g down in
    let p_lower : p ≤ a.bad = Reaches-le g a.reached in
    let apart : q ≡ a.bad → ⊥ = λ e. a.not_bad (omega arith) in (
      record {
        below = subst (λ (b : Option ℕ). is_below graph b q ≡ true) (sym a.bad_is)
            (and_from _ _ (reaches-true graph a.bad q g (Reaches-trans a.reached down)) (not_from_false _ (ne_eqb q a.bad apart)));
        not_good = subst (λ (gs : List ℕ). has_place gs q ≡ false) same.goods now.not_good;
        not_skipped = subst (λ (ks : List Bool). is_in ks q ≡ false) same.skips now.not_skipped;
      },
      λ e. both_ways (q == p) (not-true _ parts.1) (eq-eqb q p (sym e)),
    )
shrinks graph s t Skip p q g a same room h =
    let now : MayAsk graph (mark t Skip p) q = may_ask_parts graph (mark t Skip p) q h in
    let unset : is_in (set s.skips p true) q ≡ false = subst (λ (ks : List Bool). is_in (set ks p true) q ≡ false) same.skips now.not_skipped in (
      record {
        below = subst (λ (b : Option ℕ). is_below graph b q ≡ true) same.bad now.below;
        not_good = subst (λ (gs : List ℕ). has_place gs q ≡ false) same.goods now.not_good;
        not_skipped = false_from_ne_true (is_in s.skips q) (λ k. both_ways _ unset (set-kept s.skips p q k));
      },
      λ e. both_ways _ unset (subst (λ (x : ℕ). is_in (set s.skips p true) x ≡ true) e (get_or-set_same s.skips p true false room)),
    )

-- A mark of the asked place leaves fewer places to ask.
pub left_to_ask-falls : (graph : List (List ℕ)) (s : Search) (m : Mark) (p : ℕ) → IsGraph graph → IsSearchOver graph s → (ask graph s).step.ask ≡ Test p
    → left_to_ask graph (mark (ask graph s).search m p) < left_to_ask graph s
left_to_ask-falls graph s m p g over h =
    count_lt (λ q. may_ask graph (mark t m p) q) (λ q. may_ask graph s q) (places graph) p
    (λ q k. may_ask_from graph s q (shrunk q k).0)
    (p, omega (arith, length-range_with_len 0 (length graph), a.asks_for.within), get_or-range_with_len 0 (length graph) p p a.asks_for.within ∙ zero-add p)
    (false_from_ne_true _ (λ k. (shrunk p k).1 refl))
    (may_ask_asked graph s p g a.asks_for)
  where
    t : Search
    t = (ask graph s).search

    a : Asking graph s (ask graph s) p
    a = asking graph s p g h

    shrunk : (q : ℕ) → may_ask graph (mark t m p) q ≡ true → MayAsk graph s q × (p ≡ q → ⊥)
    shrunk q k = shrinks graph s t m p q g a.asks_for a.same (rw over.skips a.asks_for.within) k

pub left_to_ask-le : (graph : List (List ℕ)) (s : Search) → left_to_ask graph s ≤ length graph
left_to_ask-le graph s = omega (arith, count_by-le-length (λ q. may_ask graph s q) (places graph), length-range_with_len 0 (length graph))

-- the places of a search stay places of the graph
pub IsSearchOver-marked : (graph : List (List ℕ)) (s : Search) (m : Mark) (p : ℕ) → IsGraph graph → IsSearchOver graph s → (ask graph s).step.ask ≡ Test p
    → IsSearchOver graph (mark (ask graph s).search m p)
unfolding mark
IsSearchOver-marked graph s Good p g over h = record {
  bad = rw a.same.bad over.bad;
  goods = more (has_place t.goods p);
  skips = ap length a.same.skips ∙ over.skips;
  expected = tt;
}
  where
    t : Search
    t = (ask graph s).search

    a : Asking graph s (ask graph s) p
    a = asking graph s p g h

    before : All (λ good. good < length graph) t.goods
    before = rw a.same.goods over.goods

    more : (b : Bool) → All (λ good. good < length graph) (cond b t.goods (t.goods ++ p ∷ []))
    more true = before
    more false = All-push (λ good. good < length graph) t.goods p before a.asks_for.within
IsSearchOver-marked graph s Bad p g over h = record {
  bad = (asking graph s p g h).asks_for.within;
  goods = rw (asking graph s p g h).same.goods over.goods;
  skips = ap length (asking graph s p g h).same.skips ∙ over.skips;
  expected = tt;
}
IsSearchOver-marked graph s Skip p g over h = record {
  bad = rw (asking graph s p g h).same.bad over.bad;
  goods = rw (asking graph s p g h).same.goods over.goods;
  skips = length-set (ask graph s).search.skips p true ∙ ap length (asking graph s p g h).same.skips ∙ over.skips;
  expected = tt;
}

-- ---- turns

verdict_agrees : (go other : Option ℕ → Search → Run) (left : Option ℕ) (t : Search) (p : ℕ) (outcome : Outcome) (v : Verdict)
    → ((m : Mark) → go (marked_one left) (mark t m p) ≡ other (marked_one left) (mark t m p))
    → after_verdict go left t p outcome v ≡ after_verdict other left t p outcome v
verdict_agrees go other left t p outcome Abort h = refl
verdict_agrees go other left t p outcome (MarkOf m) h = ap (λ (r : Run). with_entries (Marked m p ∷ []) r) (h m)

look_agrees : (known : Outcomes) (go other : Option ℕ → Search → Run) (left : Option ℕ) (t : Search) (p : ℕ) (o : Option Outcome)
    → ((m : Mark) → go (marked_one left) (mark t m p) ≡ other (marked_one left) (mark t m p))
    → after_look known go left t p o ≡ after_look known other left t p o
look_agrees known go other left t p None h = refl
look_agrees known go other left t p (Some outcome) h = ap (λ (r : Run). with_used p outcome r) (verdict_agrees go other left t p outcome (verdict_of outcome) h)

step_agrees : (known : Outcomes) (go other : Option ℕ → Search → Run) (left : Option ℕ) (t : Search) (a : Ask)
    → ((p : ℕ) (m : Mark) → a ≡ Test p → go (marked_one left) (mark t m p) ≡ other (marked_one left) (mark t m p))
    → after_step known go left t a ≡ after_step known other left t a
step_agrees known go other left t (Test p) h = look_agrees known go other left t p (known p) (λ m. h p m refl)
step_agrees known go other left t (FirstBad p) h = refl
step_agrees known go other left t (OnlySkipped ps) h = refl
step_agrees known go other left t WaitBoth h = refl
step_agrees known go other left t WaitBad h = refl
step_agrees known go other left t WaitGood h = refl
step_agrees known go other left t (MergeBaseBad p) h = refl
step_agrees known go other left t (GoodNotAncestor p) h = refl
step_agrees known go other left t (BothSides p) h = refl

-- A turn is the same for two ways to go on that agree at the marked state.
pub turn_agrees : (graph : List (List ℕ)) (known : Outcomes) (go other : Option ℕ → Search → Run) (left : Option ℕ) (s : Search)
    → ((p : ℕ) (m : Mark) → (ask graph s).step.ask ≡ Test p
    → go (marked_one left) (mark (ask graph s).search m p) ≡ other (marked_one left) (mark (ask graph s).search m p))
    → turn graph known go left s ≡ turn graph known other left s
turn_agrees graph known go other (Some zero) s h = refl
turn_agrees graph known go other (Some (suc k)) s h = ap (λ (r : Run). with_entries (map (λ p. SkippedBase p) (ask graph s).step.warned) r)
    (step_agrees known go other (Some (suc k)) (ask graph s).search (ask graph s).step.ask h)
turn_agrees graph known go other None s h = ap (λ (r : Run). with_entries (map (λ p. SkippedBase p) (ask graph s).step.warned) r)
    (step_agrees known go other None (ask graph s).search (ask graph s).step.ask h)

-- with turns to spare their number plays no part
steady : (graph : List (List ℕ)) (known : Outcomes) → IsGraph graph → (n m : ℕ) (left : Option ℕ) (s : Search) → IsSearchOver graph s → left_to_ask graph s < n
    → left_to_ask graph s < m → run_within n graph known left s ≡ run_within m graph known left s
unfolding run_within
steady graph known g zero m left s over a b = absurd (omega arith)
steady graph known g (suc n) zero left s over a b = absurd (omega arith)
steady graph known g (suc n) (suc m) left s over a b =
    turn_agrees graph known (run_within n graph known) (run_within m graph known) left s
    (λ p k h.
    let fewer : left_to_ask graph (mark (ask graph s).search k p) < left_to_ask graph s = left_to_ask-falls graph s k p g over h in
    steady graph known g n m (marked_one left) (mark (ask graph s).search k p) (IsSearchOver-marked graph s k p g over h) (omega arith) (omega arith))

-- A run goes on turn by turn: its turns are never spent.
pub run-is : (graph : List (List ℕ)) (known : Outcomes) (left : Option ℕ) (s : Search) → IsGraph graph → IsSearchOver graph s
    → run graph known left s ≡ turn graph known (run graph known) left s
unfolding run_within run
run-is graph known left s g over =
    turn_agrees graph known (run_within (length graph) graph known) (run_within (suc (length graph)) graph known) left s
    (λ p k h.
    let fewer : left_to_ask graph (mark (ask graph s).search k p) < left_to_ask graph s = left_to_ask-falls graph s k p g over h in
    steady graph known g (length graph) (suc (length graph)) (marked_one left) (mark (ask graph s).search k p) (IsSearchOver-marked graph s k p g over h)
    (omega (arith, left_to_ask-le graph s)) (omega (arith, left_to_ask-le graph s)))
