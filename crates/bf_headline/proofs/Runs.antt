-- A run in short is a run.
use Rattle.std.proofs.Common.{◌≡◌, ℕ, zero, suc, ◌<◌, Bool, true, false, ◌&&◌, cond, List, [], ◌∷◌, ◌++◌, length, map, Option}
use Rattle.std.proofs.Common.{Some, None, IfSome, refl, ap, sym, ◌∙◌, subst, arith, eq-eqb}
use Rattle.std.proofs.lemmas.Bool.{cond-false}
use Rattle.bf_graph.specs.Graph.{IsGraph}
use Rattle.bf_search.specs.declared.asks.Ask.{Ask}
use Rattle.bf_search.specs.declared.asks.Ask.TheVariants.{WaitBoth, WaitBad, WaitGood, Test, MergeBaseBad, GoodNotAncestor, BothSides, FirstBad, OnlySkipped}
use Rattle.bf_search.specs.declared.entries.Entry.{Entry}
use Rattle.bf_search.specs.declared.entries.Entry.TheVariants.{Marked, SkippedBase}
use Rattle.bf_search.specs.declared.outcomes.Mark.{Mark}
use Rattle.bf_search.specs.declared.outcomes.Mark.TheVariants.{Good, Bad, Skip}
use Rattle.bf_search.specs.declared.outcomes.Outcome.{Outcome}
use Rattle.bf_search.specs.declared.outcomes.Outcome.TheVariants.{Exit, Killed}
use Rattle.bf_search.specs.declared.outcomes.Verdict.{Verdict}
use Rattle.bf_search.specs.declared.outcomes.Verdict.TheVariants.{Mark as MarkOf, Abort}
use Rattle.bf_search.specs.Bases.{has_place}
use Rattle.bf_search.specs.LeftToAsk.{left_to_ask}
use Rattle.bf_search.specs.Outcomes.{Outcomes, verdict_of}
use Rattle.bf_search.specs.State.{Search, IsSearchOver, ask, mark, is_place, is_expected}
use Rattle.bf_search.specs.Run.{Run, after_step, after_look, after_verdict, turn, run_within, run, one_at_a_time}
use Rattle.bf_search.proofs.Turns.{Asking, asking, left_to_ask-falls, left_to_ask-le, IsSearchOver-marked}
use Rattle.bf_headline.proofs.Asks.{ask-is}
use Rattle.bf_headline.specs.Headline as short
use Rattle.bf_headline.specs.Links.{standing_of, bad_after, IsSame, IsSameAsk, IsSameMark}

-- ---- the mark of a place that was asked

and_true : (b : Bool) → (b && true) ≡ b
and_true true = refl
and_true false = refl

not_empty : (ps : List ℕ) (p : ℕ) → ps ++ p ∷ [] ≡ [] → ⊥
not_empty [] p h = cc
not_empty (q ∷ ps) p h = cc

pub record IsMarked (t : Search) (bad : ℕ) (m : Mark) (p : ℕ) : Type 0 where
  pub same : IsSameMark t bad m p
  pub some : (mark t m p).goods ≡ [] → ⊥

expected_is : (t : Search) (p : ℕ) → t.expected ≡ Some p → is_expected t p ≡ true
expected_is t p e = ap (λ (o : Option ℕ). is_place o p) e ∙ eq-eqb p p refl

checked_is : (t : Search) (p : ℕ) → t.expected ≡ Some p → (t.checked && is_expected t p) ≡ t.checked
checked_is t p e = ap (λ (b : Bool). t.checked && b) (expected_is t p e) ∙ and_true t.checked

pub marked_is : (t : Search) (bad : ℕ) (m : Mark) (p : ℕ) → t.bad ≡ Some bad → t.expected ≡ Some p → has_place t.goods p ≡ false → (t.goods ≡ [] → ⊥)
    → IsMarked t bad m p
unfolding mark short.mark
marked_is t bad Good p bad_is e fresh some =
    let goods_are : cond (has_place t.goods p) t.goods (t.goods ++ p ∷ []) ≡ t.goods ++ p ∷ [] = cond-false (has_place t.goods p) t.goods (t.goods ++ p ∷ []) fresh in
    record {
      same = record {
        state =
            ap (λ (gs : List ℕ). standing_of (record t { goods = gs; checked = t.checked && is_expected t p; expected = None; bad_asked = false }) bad) goods_are
            ∙ ap (λ (b : Bool). standing_of (record t { goods = t.goods ++ p ∷ []; checked = b; expected = None; bad_asked = false }) bad) (checked_is t p e);
        bad_is = bad_is;
      };
      some = λ h. not_empty t.goods p (sym goods_are ∙ h);
    }
marked_is t bad Bad p bad_is e fresh some = record {
  same = record {
    state =
        ap (λ (b : Bool). standing_of (record t { bad = Some p; checked = b; expected = None; bad_asked = is_expected t p }) p) (checked_is t p e)
        ∙ ap (λ (b : Bool). standing_of (record t { bad = Some p; expected = None; bad_asked = b }) p) (expected_is t p e);
    bad_is = refl;
  };
  some = some;
}
marked_is t bad Skip p bad_is e fresh some = record { same = record { state = refl; bad_is = bad_is }; some = some }

pub verdict-is : (outcome : Outcome) → short.verdict_of outcome ≡ verdict_of outcome
verdict-is (Exit status) = refl
verdict-is Killed = refl

-- ---- the run

module _ (known : Outcomes) (go : Option ℕ → Search → Run) (brief : short.Standing → short.Run) (t : Search) (st : short.Standing) where
  judged_same : (p : ℕ) (outcome : Outcome) (v : Verdict) → ((m : Mark) → IsSame (go None (mark t m p)) (brief (short.mark st m p)))
      → IsSame (after_verdict go None t p outcome v) (short.judge brief st p outcome v)
  judged_same p outcome Abort h = record { entries = refl; used = refl; end = refl }
  judged_same p outcome (MarkOf m) h = record {
    entries = ap (λ (es : List Entry). Marked m p ∷ es) (h m).entries;
    used = (h m).used;
    end = (h m).end;
  }

  tested_same : (p : ℕ) (o : Option Outcome) → ((m : Mark) → IsSame (go None (mark t m p)) (brief (short.mark st m p)))
      → IsSame (after_look known go None t p o) (short.test brief st p o)
  tested_same p None h = record { entries = refl; used = refl; end = refl }
  tested_same p (Some outcome) h =
      let it : IsSame (after_verdict go None t p outcome (verdict_of outcome)) (short.judge brief st p outcome (short.verdict_of outcome)) =
      subst (λ (v : Verdict). IsSame (after_verdict go None t p outcome (verdict_of outcome)) (short.judge brief st p outcome v))
      (sym (verdict-is outcome))
      (judged_same p outcome (verdict_of outcome) h) in
      record {
        entries = it.entries;
        used = ap (λ (us : List (ℕ × Outcome)). (p, outcome) ∷ us) it.used;
        end = it.end;
      }

  step_same : (a : Ask) → ((p : ℕ) (m : Mark) → a ≡ Test p → IsSame (go None (mark t m p)) (brief (short.mark st m p)))
      → IsSame (after_step known go None t a) (short.answer known brief st a)
  step_same (Test p) h = tested_same p (known p) (λ m. h p m refl)
  step_same (FirstBad p) h = record { entries = refl; used = refl; end = refl }
  step_same (OnlySkipped ps) h = record { entries = refl; used = refl; end = refl }
  step_same WaitBoth h = record { entries = refl; used = refl; end = refl }
  step_same WaitBad h = record { entries = refl; used = refl; end = refl }
  step_same WaitGood h = record { entries = refl; used = refl; end = refl }
  step_same (MergeBaseBad p) h = record { entries = refl; used = refl; end = refl }
  step_same (GoodNotAncestor p) h = record { entries = refl; used = refl; end = refl }
  step_same (BothSides p) h = record { entries = refl; used = refl; end = refl }

-- one turn in short
abbrev brief_turn : Outcomes → (short.Standing → short.Run) → short.Standing → short.Asked → short.Run
brief_turn known go s asked =
    let run = short.answer known go (record s { checked = asked.checked }) asked.ask in
    record run { entries = map SkippedBase asked.warned ++ run.entries }

turn_same : (graph : List (List ℕ)) (known : Outcomes) (go : Option ℕ → Search → Run) (brief : short.Standing → short.Run) (s : Search) (bad : ℕ)
    → IsSameAsk s bad (ask graph s) (short.ask graph (standing_of s bad))
    → ((p : ℕ) (m : Mark) → (ask graph s).step.ask ≡ Test p
    → IsSame (go None (mark (ask graph s).search m p)) (brief (short.mark (standing_of (ask graph s).search bad) m p)))
    → IsSame (turn graph known go None s) (brief_turn known brief (standing_of s bad) (short.ask graph (standing_of s bad)))
turn_same graph known go brief s bad it h =
    let asked = short.ask graph (standing_of s bad) in
    let t = (ask graph s).search in
    let first : IsSame (after_step known go None t (ask graph s).step.ask) (short.answer known brief (standing_of t bad) (ask graph s).step.ask) =
    step_same known go brief t (standing_of t bad) (ask graph s).step.ask h in
    let second : IsSame (after_step known go None t (ask graph s).step.ask) (short.answer known brief (standing_of t bad) asked.ask) =
    subst (λ (a : Ask). IsSame (after_step known go None t (ask graph s).step.ask) (short.answer known brief (standing_of t bad) a)) it.asks first in
    let next : short.Standing = record (standing_of s bad) { checked = asked.checked } in
    let third : IsSame (after_step known go None t (ask graph s).step.ask) (short.answer known brief next asked.ask) =
    subst (λ (st : short.Standing). IsSame (after_step known go None t (ask graph s).step.ask) (short.answer known brief st asked.ask)) it.state second in
    record {
      entries =
          ap (λ (es : List Entry). map (λ p. SkippedBase p) (ask graph s).step.warned ++ es) third.entries
          ∙ ap (λ (ws : List ℕ). map (λ p. SkippedBase p) ws ++ (short.answer known brief next asked.ask).entries) it.warns;
      used = third.used;
      end = third.end;
    }

bad_below : (graph : List (List ℕ)) (s : Search) (bad : ℕ) → IsSearchOver graph s → s.bad ≡ Some bad → bad < length graph
bad_below graph s bad over bad_is = subst (λ (o : Option ℕ). IfSome o (λ b. b < length graph)) bad_is over.bad

-- the mark of a place that an ask asked for
pub asked_marked : (graph : List (List ℕ)) (s : Search) (bad : ℕ) (m : Mark) (p : ℕ) → IsGraph graph → IsSearchOver graph s → s.bad ≡ Some bad
    → (s.goods ≡ [] → ⊥) → (ask graph s).step.ask ≡ Test p → IsMarked (ask graph s).search bad m p
asked_marked graph s bad m p g over bad_is some h =
    let it : IsSameAsk s bad (ask graph s) (short.ask graph (standing_of s bad)) = ask-is graph g s bad (bad_below graph s bad over bad_is) bad_is some in
    let a : Asking graph s (ask graph s) p = asking graph s p g h in
    marked_is (ask graph s).search bad m p (it.bad_is ∙ bad_is) a.expected
    (ap (λ (gs : List ℕ). has_place gs p) a.same.goods ∙ a.asks_for.not_good) (λ e. some (sym a.same.goods ∙ e))

within_same : (graph : List (List ℕ)) (known : Outcomes) → IsGraph graph → (n : ℕ) (s : Search) (bad : ℕ) → IsSearchOver graph s → s.bad ≡ Some bad
    → (s.goods ≡ [] → ⊥) → left_to_ask graph s < n → IsSame (run_within n graph known None s) (short.run_in n graph known (standing_of s bad))
unfolding run_within short.run_in
within_same graph known g zero s bad over bad_is some few = absurd (omega arith)
within_same graph known g (suc n) s bad over bad_is some few =
    turn_same graph known (run_within n graph known) (short.run_in n graph known) s bad it
    (λ p m h.
    let t = (ask graph s).search in
    let marks : IsMarked t bad m p = asked_marked graph s bad m p g over bad_is some h in
    let fewer : left_to_ask graph (mark t m p) < left_to_ask graph s = left_to_ask-falls graph s m p g over h in
    subst (λ (st : short.Standing). IsSame (run_within n graph known None (mark t m p)) (short.run_in n graph known st)) marks.same.state
    (within_same graph known g n (mark t m p) (bad_after m bad p) (IsSearchOver-marked graph s m p g over h) marks.same.bad_is marks.some (omega arith)))
  where
    it : IsSameAsk s bad (ask graph s) (short.ask graph (standing_of s bad))
    it = ask-is graph g s bad (bad_below graph s bad over bad_is) bad_is some

-- From a search with both ends, testing one commit at a time comes to what the short definition says.
pub one_at_a_time-is : (graph : List (List ℕ)) (known : Outcomes) (s : Search) (bad : ℕ) → IsGraph graph → IsSearchOver graph s → s.bad ≡ Some bad
    → (s.goods ≡ [] → ⊥) → IsSame (one_at_a_time graph s known 0) (short.one_at_a_time graph known (standing_of s bad))
unfolding run
one_at_a_time-is graph known s bad g over bad_is some =
    within_same graph known g (suc (length graph)) s bad over bad_is some (omega (arith, left_to_ask-le graph s))
