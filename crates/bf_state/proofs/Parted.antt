-- The two guesses at the outcome of an asked place part the candidates.
use Rattle.std.proofs.Common.{◌≡◌, ℕ, suc, ◌<◌, ◌≤◌, ◌⊎◌, Bool, true, false, not, ◌&&◌, ◌||◌, ◌==◌, cond, List, [], ◌∷◌, ◌++◌, length, take, Option, Some, None}
use Rattle.std.proofs.Common.{refl, sym, ap, ◌∙◌, subst, inl, inr, ⊎_elim, arith}
use Rattle.std.proofs.lemmas.Bool.{and_parts, cases_Bool, both_ways, false_from_ne_true, cond-true, cond-false}
use Rattle.std.proofs.lemmas.List.Elements.{All-contains, All-filter, filter_passes}
use Rattle.std.proofs.lemmas.List.Folds.{list_any-append}
use Rattle.std.specs.List.{Contains, list_any, filter, find, range_with_len}
use Rattle.bf_graph.specs.Graph.{parents_of, IsGraph}
use Rattle.bf_search.specs.declared.asks.Ask.TheVariants.{Test, MergeBaseBad, GoodNotAncestor, FirstBad}
use Rattle.bf_search.specs.declared.asks.Check.{Check}
use Rattle.bf_search.specs.declared.asks.Check.TheVariants.{Passed, Bad as BaseIsBad, Test as TestBase}
use Rattle.bf_search.specs.declared.outcomes.Mark.TheVariants.{Good, Bad}
use Rattle.bf_search.specs.Reach.{places, in_mode, IsPath, Reaches, reaches, any_reaches}
use Rattle.bf_search.specs.Candidates.{is_in, is_candidate, candidates, candidate_row}
use Rattle.bf_search.specs.Choice.{is_eligible, eligible, best}
use Rattle.bf_search.specs.Bases.{has_place, common_places, merge_bases, reaches_all, check_open, check_bases, check}
use Rattle.bf_search.specs.State.{Search, Asked, without_test, ask_best, ask_among, best_of, ask_candidates, ask_checked, ask_ends, ask, mark}
use Rattle.bf_search.proofs.Reaching.{Reaches-from_test, reaches-true, Reaches-same, Reaches-trans, Reaches-le}
use Rattle.bf_search.proofs.Modes.{IsGraph-in_mode, Reaches-in_mode, parents_of-in_mode}
use Rattle.bf_search.proofs.RowLemmas.{is_in-lt}
use Rattle.bf_search.proofs.CandidateLemmas.{SomeReaches, SomeReaches-from_test, any_reaches-true, IsCandidate, IsCandidate-from_test, length-candidate_row}
use Rattle.bf_search.proofs.CandidateLemmas.{is_in-candidate_row}
use Rattle.bf_search.proofs.Turns.{Asking, asking}
use Rattle.bf_search.specs.Guesses.{is_candidate_below, is_candidate_of, IsParted}
use Rattle.bf_state.proofs.Firsts.{only_has}
use Rattle.bf_state.proofs.Once.{or_false}

-- ---- first parents lead along one line

first_parents_agree : (xs : List ℕ) (a b : ℕ) → Contains (take 1 xs) a → Contains (take 1 xs) b → a ≡ b
first_parents_agree [] a b h k = absurd (omega (arith, h.1))
first_parents_agree (x ∷ xs) a b h k = sym (only_has x a h) ∙ only_has x b k

pub one_line : (graph : List (List ℕ)) (start : ℕ) (one : List ℕ) (q : ℕ) (other : List ℕ) (p : ℕ) → IsPath (in_mode graph true) start one q
    → IsPath (in_mode graph true) start other p
    → Reaches (in_mode graph true) q p ⊎ Reaches (in_mode graph true) p q
one_line graph start [] q other p h k = inl (record { path = other; leads = subst (λ (x : ℕ). IsPath (in_mode graph true) x other p) h k })
one_line graph start (next ∷ one) q [] p h k = inr (record { path = next ∷ one; leads = subst (λ (x : ℕ). IsPath (in_mode graph true) x (next ∷ one) q) k h })
one_line graph start (next ∷ one) q (after ∷ other) p h k =
    let same : after ≡ next = first_parents_agree (parents_of graph start) after next
    (subst (λ (xs : List ℕ). Contains xs after) (parents_of-in_mode graph start) k.0)
    (subst (λ (xs : List ℕ). Contains xs next) (parents_of-in_mode graph start) h.0) in
    one_line graph next one q other p h.1 (subst (λ (x : ℕ). IsPath (in_mode graph true) x other p) same k.1)

-- in a mode, what the bad place reaches and q reaches is reached from q in the mode
pub reached_in_mode : (graph : List (List ℕ)) (first_parent : Bool) (bad q p : ℕ) → IsGraph graph → Reaches (in_mode graph first_parent) bad q
    → Reaches (in_mode graph first_parent) bad p → Reaches graph q p → Reaches (in_mode graph first_parent) q p
reached_in_mode graph false bad q p g to_q to_p down = down
reached_in_mode graph true bad q p g to_q to_p down =
    ⊎_elim
    (λ on. on)
    (λ (back : Reaches (in_mode graph true) p q).
    let up : q ≤ p = Reaches-le g (Reaches-in_mode graph true p q back) in
    let low : p ≤ q = Reaches-le g down in
    Reaches-same (in_mode graph true) q p (omega arith))
    (one_line graph bad to_q.path q to_p.path p to_q.leads to_p.leads)

-- ---- how a place was asked: a good place reaches it, or it is a candidate

abbrev pub Reason : List (List ℕ) → Search → ℕ → ℕ → Type 0
Reason graph s bad q = (any_reaches graph s.goods q ≡ true) ⊎ (is_candidate graph bad s.goods s.first_parent q ≡ true)

pub find_contains : (test : ℕ → Bool) (xs : List ℕ) (x : ℕ) → find test xs ≡ Some x → Contains xs x
find_contains test [] x h = cc
find_contains test (y ∷ ys) x h =
    ⊎_elim
    (λ yes. let same : Some y ≡ Some x = sym (cond-true (test y) (Some y) (find test ys) yes) ∙ h in let e : y ≡ x = cc in (0, omega arith, e))
    (λ not_here.
    let rest : Contains ys x = find_contains test ys x (sym (cond-false (test y) (Some y) (find test ys) not_here) ∙ h) in
    (suc rest.0, omega (arith, rest.1), rest.2))
    (cases_Bool (test y))

pub best_is_candidate : (graph : List (List ℕ)) (s : Search) (bad q : ℕ) → best_of graph s bad ≡ Some q → is_candidate graph bad s.goods s.first_parent q ≡ true
unfolding best_of best
best_is_candidate graph s bad q h = sym (is_in-candidate_row graph bad s.goods s.first_parent q place) ∙ inside
  where
    mask : List Bool
    mask = candidate_row graph bad s.goods s.first_parent

    passes : is_eligible mask bad s.skips q ≡ true
    passes = All-contains (λ p. is_eligible mask bad s.skips p ≡ true) (eligible mask bad s.skips) q
        (filter_passes (λ p. is_eligible mask bad s.skips p) (range_with_len 0 (length mask))) (find_contains _ (eligible mask bad s.skips) q h)

    inside : is_in mask q ≡ true
    inside = (and_parts (is_in mask q) (not (q == bad)) (and_parts (is_in mask q && not (q == bad)) (not (is_in s.skips q)) passes).0).0

    place : q < length graph
    place = omega (arith, is_in-lt mask q inside, length-candidate_row graph bad s.goods s.first_parent)

pub base_is_reached : (graph : List (List ℕ)) (bad : ℕ) (goods : List ℕ) (q : ℕ) → Contains (merge_bases graph bad goods) q → any_reaches graph goods q ≡ true
unfolding merge_bases common_places
base_is_reached graph bad goods q h =
    (and_parts (reaches graph bad q) (any_reaches graph goods q)
    (All-contains (λ p. (reaches graph bad p && any_reaches graph goods p) ≡ true) (merge_bases graph bad goods) q
    (All-filter (λ p. not (list_any (λ r. not (r == p) && reaches graph r p) common)) (λ p. (reaches graph bad p && any_reaches graph goods p) ≡ true) common
    (filter_passes (λ p. reaches graph bad p && any_reaches graph goods p) (places graph))) h)).1
  where
    common : List ℕ
    common = filter (λ p. reaches graph bad p && any_reaches graph goods p) (places graph)

open_is_found : (o : Option ℕ) (bases goods : List ℕ) (skips : List Bool) (q : ℕ) → check_open o bases goods skips ≡ TestBase q → o ≡ Some q
open_is_found None bases goods skips q h = cc
open_is_found (Some p) bases goods skips q h = cc

pub tested_base : (bases : List ℕ) (bad : ℕ) (goods : List ℕ) (skips : List Bool) (q : ℕ) → check_bases bases bad goods skips ≡ TestBase q → Contains bases q
unfolding check_bases
tested_base bases bad goods skips q h =
    ⊎_elim
    (λ yes. let clash : BaseIsBad bad ≡ TestBase q = sym (cond-true (has_place bases bad) (BaseIsBad bad) _ yes) ∙ h in cc)
    (λ not_base. find_contains test bases q (open_is_found (find test bases) bases goods skips q
    (sym (cond-false (has_place bases bad) (BaseIsBad bad) _ not_base) ∙ h)))
    (cases_Bool (has_place bases bad))
  where
    test : ℕ → Bool
    test p = not (has_place goods p) && not (is_in skips p)

pub check_reaches : (graph : List (List ℕ)) (bad : ℕ) (goods : List ℕ) (skips : List Bool) (q : ℕ) → check graph bad goods skips ≡ TestBase q
    → any_reaches graph goods q ≡ true
unfolding check
check_reaches graph bad goods skips q h =
    ⊎_elim
    (λ yes. let clash : Passed [] ≡ TestBase q = sym (cond-true (reaches_all graph bad goods) (Passed []) _ yes) ∙ h in cc)
    (λ not_all. base_is_reached graph bad goods q (tested_base (merge_bases graph bad goods) bad goods skips q
    (sym (cond-false (reaches_all graph bad goods) (Passed []) _ not_all) ∙ h)))
    (cases_Bool (reaches_all graph bad goods))

abbrev HasReason : List (List ℕ) → Search → ℕ → Asked → Type 0
HasReason graph s bad asked = (q : ℕ) → asked.step.ask ≡ Test q → Reason graph s bad q

best_reason : (graph : List (List ℕ)) (s t : Search) (bad : ℕ) (warned ps : List ℕ) (chosen : Option ℕ) → ((p : ℕ) → chosen ≡ Some p → Reason graph s bad p)
    → HasReason graph s bad (ask_best t warned ps chosen)
best_reason graph s t bad warned ps (Some p) a = λ q e. let same : p ≡ q = cc in subst (λ (x : ℕ). Reason graph s bad x) same (a p refl)
best_reason graph s t bad warned ps None a = λ q e. cc

one_reason : (b : Bool) (graph : List (List ℕ)) (s t : Search) (bad : ℕ) (warned ps : List ℕ) (chosen : Option ℕ)
    → ((p : ℕ) → chosen ≡ Some p → Reason graph s bad p) → HasReason graph s bad (cond b (without_test t warned (FirstBad bad)) (ask_best t warned ps chosen))
one_reason true graph s t bad warned ps chosen a = λ q e. cc
one_reason false graph s t bad warned ps chosen a = best_reason graph s t bad warned ps chosen a

among_reason : (graph : List (List ℕ)) (s t : Search) (bad : ℕ) (warned ps : List ℕ) (chosen : Option ℕ) → ((p : ℕ) → chosen ≡ Some p → Reason graph s bad p)
    → HasReason graph s bad (ask_among t bad warned ps chosen)
among_reason graph s t bad warned [] chosen a = λ q e. cc
among_reason graph s t bad warned (p ∷ []) chosen a = one_reason (p == bad) graph s t bad warned (p ∷ []) chosen a
among_reason graph s t bad warned (p ∷ r ∷ ps) chosen a = best_reason graph s t bad warned (p ∷ r ∷ ps) chosen a

bad_base_reason : (b : Bool) (graph : List (List ℕ)) (s : Search) (bad p : ℕ)
    → HasReason graph s bad (without_test s [] (cond b (MergeBaseBad p) (GoodNotAncestor p)))
bad_base_reason true graph s bad p = λ q e. cc
bad_base_reason false graph s bad p = λ q e. cc

checked_reason : (graph : List (List ℕ)) (s : Search) (bad : ℕ) (c : Check) → ((p : ℕ) → c ≡ TestBase p → any_reaches graph s.goods p ≡ true)
    → HasReason graph s bad (ask_checked graph s bad c)
checked_reason graph s bad (TestBase p) a = λ q e. let same : p ≡ q = cc in inl (subst (λ (x : ℕ). any_reaches graph s.goods x ≡ true) same (a p refl))
checked_reason graph s bad (BaseIsBad p) a = bad_base_reason s.bad_asked graph s bad p
checked_reason graph s bad (Passed warned) a =
    among_reason graph s (record s { checked = true }) bad warned (candidates graph bad s.goods s.first_parent)
    (best_of graph (record s { checked = true }) bad) (λ p e. inr (best_is_candidate graph (record s { checked = true }) bad p e))

known_reason : (b : Bool) (graph : List (List ℕ)) (s : Search) (bad : ℕ)
    → HasReason graph s bad (cond b (ask_candidates graph s bad []) (ask_checked graph s bad (check graph bad s.goods s.skips)))
known_reason true graph s bad = among_reason graph s s bad [] (candidates graph bad s.goods s.first_parent) (best_of graph s bad)
    (λ p e. inr (best_is_candidate graph s bad p e))
known_reason false graph s bad = checked_reason graph s bad (check graph bad s.goods s.skips) (λ p e. check_reaches graph bad s.goods s.skips p e)

ends_reason : (graph : List (List ℕ)) (s : Search) (found : Option ℕ) (goods : List ℕ) (bad : ℕ) → found ≡ Some bad
    → HasReason graph s bad (ask_ends graph s found goods)
ends_reason graph s None goods bad h = cc
ends_reason graph s (Some found) [] bad h = λ q e. cc
ends_reason graph s (Some found) (good ∷ goods) bad h =
    let same : found ≡ bad = cc in
    subst (λ (x : ℕ). HasReason graph s x (ask_ends graph s (Some found) (good ∷ goods))) same (known_reason s.checked graph s found)

pub reason_of : (graph : List (List ℕ)) (s : Search) (bad q : ℕ) → s.bad ≡ Some bad → (ask graph s).step.ask ≡ Test q → Reason graph s bad q
unfolding ask
reason_of graph s bad q b h = ends_reason graph s s.bad s.goods bad b q h

-- ---- the candidates after each guess

pub any_reaches-push : (graph : List (List ℕ)) (goods : List ℕ) (q p : ℕ)
    → any_reaches graph (goods ++ q ∷ []) p ≡ (any_reaches graph goods p || reaches graph q p)
unfolding any_reaches
any_reaches-push graph goods q p = list_any-append (λ from. reaches graph from p) goods (q ∷ []) ∙ ap (λ b. list_any (λ from. reaches graph from p) goods || b)
    (or_false (reaches graph q p))

-- m: the bad place reaches it in the mode; n: the asked place does; r: the asked place reaches it; d: a good place does
parted_tests : (m n r d : Bool) → (d ≡ false → r ≡ false → n ≡ false) → (d ≡ false → r ≡ true → n ≡ m) → IsParted (m && not d) (m && not (d || r)) (n && not d)
parted_tests true true r true h k = record { all = refl; apart = refl }
parted_tests true false r true h k = record { all = refl; apart = refl }
parted_tests false true r true h k = record { all = refl; apart = refl }
parted_tests false false r true h k = record { all = refl; apart = refl }
parted_tests true true true false h k = record { all = refl; apart = refl }
parted_tests true true false false h k = absurd (both_ways true (h refl refl) refl)
parted_tests true false true false h k = absurd (both_ways true (sym (k refl refl)) refl)
parted_tests true false false false h k = record { all = refl; apart = refl }
parted_tests false true true false h k = absurd (both_ways true (k refl refl) refl)
parted_tests false true false false h k = absurd (both_ways true (h refl refl) refl)
parted_tests false false true false h k = record { all = refl; apart = refl }
parted_tests false false false false h k = record { all = refl; apart = refl }

parts : (graph : List (List ℕ)) (s : Search) (bad q p : ℕ) → IsGraph graph → Reason graph s bad q
    → IsParted (is_candidate graph bad s.goods s.first_parent p) (is_candidate graph bad (s.goods ++ q ∷ []) s.first_parent p)
    (is_candidate graph q s.goods s.first_parent p)
unfolding is_candidate
parts graph s bad q p g why =
    subst (λ (b : Bool). IsParted (m && not d) (m && not b) (n && not d)) (sym (any_reaches-push graph s.goods q p))
    (parted_tests m n r d not_reached as_reached)
  where
    m : Bool
    m = reaches (in_mode graph s.first_parent) bad p

    n : Bool
    n = reaches (in_mode graph s.first_parent) q p

    r : Bool
    r = reaches graph q p

    d : Bool
    d = any_reaches graph s.goods p

    down : n ≡ true → Reaches graph q p
    down h = Reaches-in_mode graph s.first_parent q p (Reaches-from_test (in_mode graph s.first_parent) q p h)

    not_reached : d ≡ false → r ≡ false → n ≡ false
    not_reached e f = false_from_ne_true n (λ h. both_ways r f (reaches-true graph q p g (down h)))

    good_below : any_reaches graph s.goods q ≡ true → r ≡ true → d ≡ true
    good_below h k =
        let some : SomeReaches graph s.goods q = SomeReaches-from_test graph s.goods q h in
        any_reaches-true graph s.goods p g (record {
          source = some.source;
          among = some.among;
          leads = Reaches-trans some.leads (Reaches-from_test graph q p k);
        })

    as_reached : d ≡ false → r ≡ true → n ≡ m
    as_reached e f =
        ⊎_elim
        (λ reached. absurd (both_ways d e (good_below reached f)))
        (λ candidate.
        let here : IsCandidate graph bad s.goods s.first_parent q = IsCandidate-from_test graph bad s.goods s.first_parent q g candidate in
        let below : Reaches graph q p = Reaches-from_test graph q p f in
        ⊎_elim
        (λ reaches_it.
        reaches-true (in_mode graph s.first_parent) q p (IsGraph-in_mode graph s.first_parent g)
        (reached_in_mode graph s.first_parent bad q p g here.reached (Reaches-from_test (in_mode graph s.first_parent) bad p reaches_it) below)
        ∙ sym reaches_it)
        (λ misses_it.
        false_from_ne_true n (λ h. both_ways m misses_it (reaches-true (in_mode graph s.first_parent) bad p (IsGraph-in_mode graph s.first_parent g)
        (Reaches-trans here.reached (Reaches-from_test (in_mode graph s.first_parent) q p h))))
        ∙ sym misses_it)
        (cases_Bool m))
        why

-- A candidate is left after exactly one of the two guesses.
pub guesses_part : (graph : List (List ℕ)) (s : Search) (q p : ℕ) → IsGraph graph → (ask graph s).step.ask ≡ Test q
    → IsParted (is_candidate_of graph s p) (is_candidate_of graph (mark (ask graph s).search Good q) p)
    (is_candidate_of graph (mark (ask graph s).search Bad q) p)
unfolding mark
guesses_part graph s q p g h =
    subst (λ (b : Bool). IsParted (is_candidate_of graph s p) b (is_candidate_of graph (mark t Bad q) p)) (sym after_good)
    (subst (λ (b : Bool). IsParted (is_candidate_of graph s p) (is_candidate graph a.asks_for.bad (s.goods ++ q ∷ []) s.first_parent p) b) (sym after_bad)
    (subst (λ (b : Bool). IsParted b (is_candidate graph a.asks_for.bad (s.goods ++ q ∷ []) s.first_parent p) (is_candidate graph q s.goods s.first_parent p))
    (sym before)
    (parts graph s a.asks_for.bad q p g (reason_of graph s a.asks_for.bad q a.asks_for.bad_is h))))
  where
    t : Search
    t = (ask graph s).search

    a : Asking graph s (ask graph s) q
    a = asking graph s q g h

    before : is_candidate_of graph s p ≡ is_candidate graph a.asks_for.bad s.goods s.first_parent p
    before = ap (λ (o : Option ℕ). is_candidate_below graph o s p) a.asks_for.bad_is

    goods_are : cond (has_place t.goods q) t.goods (t.goods ++ q ∷ []) ≡ s.goods ++ q ∷ []
    goods_are = cond-false (has_place t.goods q) t.goods (t.goods ++ q ∷ []) (ap (λ (gs : List ℕ). has_place gs q) a.same.goods ∙ a.asks_for.not_good) ∙ ap
        (λ (gs : List ℕ). gs ++ q ∷ []) a.same.goods

    after_good : is_candidate_of graph (mark t Good q) p ≡ is_candidate graph a.asks_for.bad (s.goods ++ q ∷ []) s.first_parent p
    after_good =
        ap (λ (o : Option ℕ). is_candidate_below graph o (mark t Good q) p) (a.same.bad ∙ a.asks_for.bad_is)
        ∙ ap (λ (gs : List ℕ). is_candidate graph a.asks_for.bad gs t.first_parent p) goods_are
        ∙ ap (λ (f : Bool). is_candidate graph a.asks_for.bad (s.goods ++ q ∷ []) f p) a.same.first_parent

    after_bad : is_candidate_of graph (mark t Bad q) p ≡ is_candidate graph q s.goods s.first_parent p
    after_bad =
        ap (λ (gs : List ℕ). is_candidate graph q gs t.first_parent p) a.same.goods
        ∙ ap (λ (f : Bool). is_candidate graph q s.goods f p) a.same.first_parent
