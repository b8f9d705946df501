-- Marks of places that no ask tests, and asks of a search that has skipped no place.
use Rattle.std.proofs.Common.{◌≡◌, ℕ, Bool, true, false, ◌&&◌, ◌||◌, ◌==◌, cond, List, [], ◌∷◌, Option, Some, None, refl, sym, ap, ◌∙◌, subst, eqb-true}
use Rattle.std.proofs.lemmas.Bool.{false_from_ne_true, cond-false}
use Rattle.std.specs.List.{filter, find}
use Rattle.std.specs.Prelude.{not}
use Rattle.bf_graph.specs.Graph.{IsGraph}
use Rattle.bf_terms.specs.Texts.{with_good}
use Rattle.bf_search.specs.declared.asks.Ask.{Ask}
use Rattle.bf_search.specs.declared.asks.Ask.TheVariants.{WaitBoth, WaitBad, WaitGood, Test, MergeBaseBad, GoodNotAncestor, BothSides, FirstBad, OnlySkipped}
use Rattle.bf_search.specs.declared.asks.Check.{Check}
use Rattle.bf_search.specs.declared.asks.Check.TheVariants.{Passed, Bad as BaseIsBad, Test as TestBase}
use Rattle.bf_search.specs.declared.asks.Step.{Step}
use Rattle.bf_search.specs.declared.outcomes.Mark.{Mark}
use Rattle.bf_search.specs.declared.outcomes.Mark.TheVariants.{Good, Bad, Skip}
use Rattle.bf_search.specs.Bases.{has_place, merge_bases, reaches_all, check_open, check_bases, check}
use Rattle.bf_search.specs.Candidates.{is_in, candidates}
use Rattle.bf_search.specs.State.{Search, best_of, ask_candidates, ask_checked, ask_ends, ask, is_place, mark}
use Rattle.bf_search.proofs.Turns.{AsksFor, asking}
use Rattle.bf_state.specs.Session.{Session, with_search}
use Rattle.bf_state.specs.Settled.{is_settled}
use Rattle.bf_state.specs.Steps.{tested, followed, with_marked_good}
use Rattle.bf_state.proofs.Asks.{ask_leaves, among_step}
use Rattle.bf_state.proofs.Once.{has_place-with_good, with_good-known}

-- ---- no ask tests a place that is settled

unsettled : (graph : List (List ℕ)) (s : Search) (p : ℕ) → AsksFor graph s p → is_settled s p ≡ false
unsettled graph s p a =
    ap (λ (b : Bool). b || is_place s.bad p || is_in s.skips p) a.not_good
    ∙ ap (λ (o : Option ℕ). is_place o p || is_in s.skips p) a.bad_is
    ∙ ap (λ (b : Bool). b || is_in s.skips p) (false_from_ne_true (a.bad == p) (λ e. a.not_bad (sym (eqb-true a.bad p e))))
    ∙ a.not_skipped

other_tested : (graph : List (List ℕ)) (s : Search) (p q : ℕ) → IsGraph graph → is_settled s p ≡ true → (ask graph s).step.ask ≡ Test q → (q == p) ≡ false
other_tested graph s p q g h e = false_from_ne_true (q == p) (λ same. apart (sym h ∙ unsettled graph s p
    (subst (λ (r : ℕ). AsksFor graph s r) (eqb-true q p same) (asking graph s q g e).asks_for)))
  where
    apart : true ≡ false → ⊥
    apart e = cc

not_tested : (graph : List (List ℕ)) (s : Search) (p : ℕ) (a : Ask) → IsGraph graph → is_settled s p ≡ true → (ask graph s).step.ask ≡ a
    → is_place (tested a) p ≡ false
not_tested graph s p (Test q) g h e = other_tested graph s p q g h e
not_tested graph s p WaitBoth g h e = refl
not_tested graph s p WaitBad g h e = refl
not_tested graph s p WaitGood g h e = refl
not_tested graph s p (MergeBaseBad q) g h e = refl
not_tested graph s p (GoodNotAncestor q) g h e = refl
not_tested graph s p (BothSides q) g h e = refl
not_tested graph s p (FirstBad q) g h e = refl
not_tested graph s p (OnlySkipped ps) g h e = refl

-- ---- so a mark of it leaves the same, whatever was asked

and_no : (b c : Bool) → b && false ≡ c && false
and_no true true = refl
and_no true false = refl
and_no false true = refl
and_no false false = refl

marked_alike : (s : Search) (b : Bool) (e : Option ℕ) (m : Mark) (p : ℕ) → (m ≡ Skip → ⊥) → is_place e p ≡ false
    → mark (record s { expected = None }) m p ≡ mark (followed s b e) m p
unfolding mark
marked_alike s b e Good p side unasked = λ i. record s { goods = with_good s.goods p; checked = same i; expected = None; bad_asked = false }
  where
    same : s.checked && false ≡ b && is_place e p
    same = and_no s.checked b ∙ ap (λ (v : Bool). b && v) (sym unasked)
marked_alike s b e Bad p side unasked = λ i. record s { bad = Some p; checked = same i; expected = None; bad_asked = sym unasked i }
  where
    same : s.checked && false ≡ b && is_place e p
    same = and_no s.checked b ∙ ap (λ (v : Bool). b && v) (sym unasked)
marked_alike s b e Skip p side unasked = absurd (side refl)

added_alike : (s : Search) (m : Mark) (p : ℕ) → mark (record (with_marked_good s m p) { expected = None }) m p ≡ mark (record s { expected = None }) m p
unfolding mark
added_alike s Good p = λ i. record s {
  goods = with_good-known (with_good s.goods p) p (has_place-with_good s.goods p) i;
  checked = s.checked && false;
  expected = None;
  bad_asked = false;
}
added_alike s Bad p = refl
added_alike s Skip p = refl

pub settled_taken : (graph : List (List ℕ)) (v : Session) (m : Mark) (p : ℕ) → IsGraph graph → is_settled v.search p ≡ true → (m ≡ Skip → ⊥)
    → with_search v (mark (record (with_marked_good v.search m p) { expected = None }) m p) ≡ with_search v (mark (ask graph v.search).search m p)
settled_taken graph v m p g h side =
    ap (λ (s : Search). with_search v s)
    (added_alike v.search m p
    ∙ marked_alike v.search (ask graph v.search).search.checked (tested (ask graph v.search).step.ask) m p side
    (not_tested graph v.search p (ask graph v.search).step.ask g h refl)
    ∙ ap (λ (s : Search). mark s m p) (sym (ask_leaves graph v.search)))

-- ---- where no place is skipped, no ask warns of one

abbrev WarnsOfNone : Check → Type 0
WarnsOfNone (Passed warned) = warned ≡ []
WarnsOfNone other = Unit {0}

filter_none : (test : ℕ → Bool) (ps : List ℕ) → ((p : ℕ) → test p ≡ false) → filter test ps ≡ []
filter_none test [] none = refl
filter_none test (p ∷ ps) none = cond-false (test p) (p ∷ filter test ps) (filter test ps) (none p) ∙ filter_none test ps none

open_none : (o : Option ℕ) (bases goods : List ℕ) (skips : List Bool) → ((p : ℕ) → is_in skips p ≡ false) → WarnsOfNone (check_open o bases goods skips)
open_none (Some p) bases goods skips none = tt
open_none None bases goods skips none =
    filter_none (λ p. is_in skips p && not (has_place goods p)) bases (λ p. ap (λ (b : Bool). b && not (has_place goods p)) (none p))

by_bases : (b : Bool) (bad : ℕ) (c : Check) → WarnsOfNone c → WarnsOfNone (cond b (BaseIsBad bad) c)
by_bases true bad c h = tt
by_bases false bad c h = h

by_reach : (b : Bool) (c : Check) → WarnsOfNone c → WarnsOfNone (cond b (Passed []) c)
by_reach true c h = refl
by_reach false c h = h

check_none : (graph : List (List ℕ)) (bad : ℕ) (goods : List ℕ) (skips : List Bool) → ((p : ℕ) → is_in skips p ≡ false) → WarnsOfNone (check graph bad goods skips)
unfolding check check_bases
check_none graph bad goods skips none =
    let bases : List ℕ = merge_bases graph bad goods in
    by_reach (reaches_all graph bad goods) _ (by_bases (has_place bases bad) bad _
    (open_none (find (λ p. not (has_place goods p) && not (is_in skips p)) bases) bases goods skips none))

candidates_warn : (graph : List (List ℕ)) (s : Search) (bad : ℕ) (warned : List ℕ) → (ask_candidates graph s bad warned).step.warned ≡ warned
candidates_warn graph s bad warned =
    ap (λ (t : Step). t.warned) (among_step s s bad warned (candidates graph bad s.goods s.first_parent) (best_of graph s bad))

checked_warns : (graph : List (List ℕ)) (s : Search) (bad : ℕ) (c : Check) → WarnsOfNone c → (ask_checked graph s bad c).step.warned ≡ []
checked_warns graph s bad (TestBase p) h = refl
checked_warns graph s bad (BaseIsBad p) h = refl
checked_warns graph s bad (Passed warned) h = candidates_warn graph (record s { checked = true }) bad warned ∙ h

known_warns : (b : Bool) (graph : List (List ℕ)) (s : Search) (bad : ℕ) (c : Check) → WarnsOfNone c
    → (cond b (ask_candidates graph s bad []) (ask_checked graph s bad c)).step.warned ≡ []
known_warns true graph s bad c h = candidates_warn graph s bad []
known_warns false graph s bad c h = checked_warns graph s bad c h

ends_warn : (graph : List (List ℕ)) (s : Search) (bad : Option ℕ) (goods : List ℕ) → ((p : ℕ) → is_in s.skips p ≡ false)
    → (ask_ends graph s bad goods).step.warned ≡ []
ends_warn graph s None [] none = refl
ends_warn graph s None (good ∷ goods) none = refl
ends_warn graph s (Some bad) [] none = refl
ends_warn graph s (Some bad) (good ∷ goods) none =
    known_warns s.checked graph s bad (check graph bad s.goods s.skips) (check_none graph bad s.goods s.skips none)

pub none_warned : (graph : List (List ℕ)) (s : Search) → ((p : ℕ) → is_in s.skips p ≡ false) → (ask graph s).step.warned ≡ []
unfolding ask
none_warned graph s none = ends_warn graph s s.bad s.goods none
