-- How a run ends, and why.
use Rattle.std.proofs.Common.{◌≡◌, ℕ, zero, suc, ◌-◌, ◌<◌, Bool, true, false, ◌==◌, ◌&&◌, cond, List, [], ◌∷◌, ◌++◌, length, map, Option, Some, None, refl, sym}
use Rattle.std.proofs.Common.{ap, ◌∙◌, subst, arith}
use Rattle.bf_graph.specs.Graph.{IsGraph}
use Rattle.bf_search.specs.declared.asks.Ask.{Ask}
use Rattle.bf_search.specs.declared.asks.Ask.TheVariants.{WaitBoth, WaitBad, WaitGood, Test, MergeBaseBad, GoodNotAncestor, BothSides, FirstBad, OnlySkipped}
use Rattle.bf_search.specs.declared.asks.Check.{Check}
use Rattle.bf_search.specs.declared.asks.Check.TheVariants.{Passed, Bad as BaseIsBad, Test as TestBase}
use Rattle.bf_search.specs.declared.entries.Entry.{Entry}
use Rattle.bf_search.specs.declared.entries.Entry.TheVariants.{SkippedBase, FirstBadFound, OnlySkippedLeft}
use Rattle.bf_search.specs.declared.farm.Ending.{Ending}
use Rattle.bf_search.specs.declared.farm.Ending.TheVariants as endings
use Rattle.bf_search.specs.declared.outcomes.Outcome.{Outcome}
use Rattle.bf_search.specs.declared.outcomes.Mark.{Mark}
use Rattle.bf_search.specs.declared.outcomes.Mark.TheVariants.{Good, Bad, Skip}
use Rattle.bf_search.specs.declared.outcomes.Verdict.{Verdict}
use Rattle.bf_search.specs.declared.outcomes.Verdict.TheVariants.{Mark as MarkOf, Abort}
use Rattle.bf_search.specs.Bases.{has_place, check}
use Rattle.bf_search.specs.Candidates.{candidates}
use Rattle.bf_search.specs.Outcomes.{Outcomes, verdict_of}
use Rattle.bf_search.specs.State.{Search, IsSearchOver, Asked, without_test, ask_best, ask_among, best_of, ask_candidates, ask_checked, is_expected, ask, mark}
use Rattle.bf_search.specs.LeftToAsk.{left_to_ask}
use Rattle.bf_search.specs.Run.{End, Answered, Leg, Open, Run, ended, with_used, marked_one, after_verdict, after_look, after_step, after_ask, turn, run_within}
use Rattle.bf_search.specs.Run.{run, one_at_a_time}
use Rattle.bf_search.specs.Farm.{end_of}
use Rattle.bf_search.proofs.Turns.{Asking, asking, left_to_ask-falls, left_to_ask-le, IsSearchOver-marked}
use Rattle.bf_state.specs.Runs.{is_unfinished}
use Rattle.bf_state.specs.Steps.{tested}
use Rattle.bf_state.proofs.Asks.{ask_leaves, known_ends}
use Rattle.bf_state.proofs.AskAgain.{ask_again}
use Rattle.bf_state.specs.Ends.{HasEnds, marks_of}
use Rattle.bf_state.proofs.OnePath.{AskedBy, among_candidates, by_check, asked_by, expected_is, check_after_bad}

abbrev Go : Type 0
Go = Option ℕ → Search → Run

-- ---- the marks that a run made

marks_of-warned : (ps : List ℕ) (es : List Entry) → marks_of (map (λ p. SkippedBase p) ps ++ es) ≡ marks_of es
marks_of-warned [] es = refl
marks_of-warned (p ∷ ps) es = marks_of-warned ps es

-- a run ends with its leg exactly where it made the marks that were left
record IsLegged (left : Option ℕ) (r : Run) : Type 0 where
  ends : r.end ≡ Leg → left ≡ Some (length (marks_of r.entries))
  made : left ≡ Some (length (marks_of r.entries)) → r.end ≡ Leg

module _ (graph : List (List ℕ)) (known : Outcomes) (g : IsGraph graph) where
  abbrev GoesOn : Option ℕ → Type 0
  GoesOn left = left ≡ Some 0 → ⊥

  legged_end : (left : Option ℕ) (t : Search) (es : List Entry) (e : End) → GoesOn left → (e ≡ Leg → ⊥) → marks_of es ≡ [] → IsLegged left (ended es t e)
  legged_end left t es e on apart none = record { ends = λ h. absurd (apart h); made = λ h. absurd (on (h ∙ ap (λ (ms : List Mark). Some (length ms)) none)) }

  one_more : (left : Option ℕ) (n : ℕ) → GoesOn left → marked_one left ≡ Some n → left ≡ Some (suc n)
  one_more None n on h = cc
  one_more (Some zero) n on h = absurd (on refl)
  one_more (Some (suc k)) n on h = let e : suc k - 1 ≡ n = some_is h in let f : suc k ≡ suc n = omega arith in ap (λ x. Some x) f
    where
      some_is : {x y : ℕ} → Some x ≡ Some y → x ≡ y
      some_is e = cc

  one_less : (left : Option ℕ) (n : ℕ) → left ≡ Some (suc n) → marked_one left ≡ Some n
  one_less None n h = cc
  one_less (Some k) n h = let e : k ≡ suc n = some_is h in let f : k - 1 ≡ n = omega arith in ap (λ x. Some x) f
    where
      some_is : {x y : ℕ} → Some x ≡ Some y → x ≡ y
      some_is e = cc

  legged_verdict : (go : Go) (left : Option ℕ) (t : Search) (p : ℕ) (outcome : Outcome) (v : Verdict) → GoesOn left
      → ((m : Mark) → IsLegged (marked_one left) (go (marked_one left) (mark t m p)))
      → IsLegged left (with_used p outcome (after_verdict go left t p outcome v))
  legged_verdict go left t p outcome Abort on h = record { ends = λ e. cc; made = λ e. absurd (on e) }
  legged_verdict go left t p outcome (MarkOf m) on h = record {
    ends = λ e. one_more left (length (marks_of (go (marked_one left) (mark t m p)).entries)) on ((h m).ends e);
    made = λ e. (h m).made (one_less left (length (marks_of (go (marked_one left) (mark t m p)).entries)) e);
  }

  legged_look : (go : Go) (left : Option ℕ) (t : Search) (p : ℕ) (o : Option Outcome) → GoesOn left
      → ((m : Mark) → IsLegged (marked_one left) (go (marked_one left) (mark t m p))) → IsLegged left (after_look known go left t p o)
  legged_look go left t p None on h = legged_end left t [] (Open p) on (λ e. cc) refl
  legged_look go left t p (Some outcome) on h = legged_verdict go left t p outcome (verdict_of outcome) on h

  legged_step : (go : Go) (left : Option ℕ) (s : Search) (a : Ask) → GoesOn left → (ask graph s).step.ask ≡ a
      → ((p : ℕ) (m : Mark) → (ask graph s).step.ask ≡ Test p → IsLegged (marked_one left) (go (marked_one left) (mark (ask graph s).search m p)))
      → IsLegged left (after_step known go left (ask graph s).search a)
  legged_step go left s (Test p) on is h = legged_look go left (ask graph s).search p (known p) on (λ m. h p m is)
  legged_step go left s (FirstBad p) on is h = legged_end left (ask graph s).search (FirstBadFound p ∷ []) (Answered (FirstBad p)) on (λ e. cc) refl
  legged_step go left s (OnlySkipped ps) on is h = legged_end left (ask graph s).search (OnlySkippedLeft ps ∷ []) (Answered (OnlySkipped ps)) on (λ e. cc) refl
  legged_step go left s WaitBoth on is h = legged_end left (ask graph s).search [] (Answered WaitBoth) on (λ e. cc) refl
  legged_step go left s WaitBad on is h = legged_end left (ask graph s).search [] (Answered WaitBad) on (λ e. cc) refl
  legged_step go left s WaitGood on is h = legged_end left (ask graph s).search [] (Answered WaitGood) on (λ e. cc) refl
  legged_step go left s (MergeBaseBad p) on is h = legged_end left (ask graph s).search [] (Answered (MergeBaseBad p)) on (λ e. cc) refl
  legged_step go left s (GoodNotAncestor p) on is h = legged_end left (ask graph s).search [] (Answered (GoodNotAncestor p)) on (λ e. cc) refl
  legged_step go left s (BothSides p) on is h = legged_end left (ask graph s).search [] (Answered (BothSides p)) on (λ e. cc) refl

  legged_ask : (go : Go) (left : Option ℕ) (s : Search) → GoesOn left
      → ((p : ℕ) (m : Mark) → (ask graph s).step.ask ≡ Test p → IsLegged (marked_one left) (go (marked_one left) (mark (ask graph s).search m p)))
      → IsLegged left (after_ask known go left (ask graph s))
  legged_ask go left s on h =
      let rest : Run = after_step known go left (ask graph s).search (ask graph s).step.ask in
      let inner : IsLegged left rest = legged_step go left s (ask graph s).step.ask on refl h in
      let same : marks_of (map (λ p. SkippedBase p) (ask graph s).step.warned ++ rest.entries) ≡ marks_of rest.entries = marks_of-warned
      (ask graph s).step.warned rest.entries in
      record {
        ends = λ e. inner.ends e ∙ ap (λ (ms : List Mark). Some (length ms)) (sym same);
        made = λ e. inner.made (e ∙ ap (λ (ms : List Mark). Some (length ms)) same);
      }

  legged_turn : (go : Go) (left : Option ℕ) (s : Search)
      → ((p : ℕ) (m : Mark) → (ask graph s).step.ask ≡ Test p → IsLegged (marked_one left) (go (marked_one left) (mark (ask graph s).search m p)))
      → IsLegged left (turn graph known go left s)
  legged_turn go (Some zero) s h = record { ends = λ e. refl; made = λ e. refl }
  legged_turn go (Some (suc k)) s h = legged_ask go (Some (suc k)) s (λ e. let f : suc k ≡ 0 = some_is e in absurd (omega arith)) h
    where
      some_is : {x y : ℕ} → Some x ≡ Some y → x ≡ y
      some_is e = cc
  legged_turn go None s h = legged_ask go None s (λ e. cc) h

  legged_within : (n : ℕ) (left : Option ℕ) (s : Search) → IsSearchOver graph s → left_to_ask graph s < n → IsLegged left (run_within n graph known left s)
  unfolding run_within
  legged_within zero left s over few = absurd (omega arith)
  legged_within (suc n) left s over few =
      legged_turn (run_within n graph known) left s
      (λ p m h. legged_within n (marked_one left) (mark (ask graph s).search m p) (IsSearchOver-marked graph s m p g over h)
      (omega (arith, left_to_ask-falls graph s m p g over h)))

  legged : (left : Option ℕ) (s : Search) → IsSearchOver graph s → IsLegged left (run graph known left s)
  unfolding run
  legged left s over = legged_within (suc (length graph)) left s over (omega (arith, left_to_ask-le graph s))

  pub leg_ends : (s : Search) (k : ℕ) → IsSearchOver graph s → (one_at_a_time graph s known k).end ≡ Leg
      → (0 < k) × (length (marks_of (one_at_a_time graph s known k).entries) ≡ k)
  leg_ends s zero over e = let h = (legged None s over).ends e in cc
  leg_ends s (suc k) over e = let h = (legged (Some (suc k)) s over).ends e in (omega arith, sym (some_is h))
    where
      some_is : {x y : ℕ} → Some x ≡ Some y → x ≡ y
      some_is e = cc

  pub leg_made : (s : Search) (k : ℕ) → IsSearchOver graph s → 0 < k → length (marks_of (one_at_a_time graph s known k).entries) ≡ k
      → (one_at_a_time graph s known k).end ≡ Leg
  leg_made s zero over l e = absurd (omega arith)
  leg_made s (suc k) over l e = (legged (Some (suc k)) s over).made (ap (λ (n : ℕ). Some n) (sym e))

-- ---- each outcome that an unfinished run used was marked

module _ (known : Outcomes) where
  abbrev IsMarked : Run → Type 0
  IsMarked r = is_unfinished r.end ≡ true → length r.used ≡ length (marks_of r.entries)

  marked_verdict : (go : Go) (left : Option ℕ) (t : Search) (p : ℕ) (outcome : Outcome) (v : Verdict) → ((l : Option ℕ) (u : Search) → IsMarked (go l u))
      → IsMarked (with_used p outcome (after_verdict go left t p outcome v))
  marked_verdict go left t p outcome Abort h = λ e. cc
  marked_verdict go left t p outcome (MarkOf m) h = λ e. let rest = h (marked_one left) (mark t m p) e in omega arith

  marked_look : (go : Go) (left : Option ℕ) (t : Search) (p : ℕ) (o : Option Outcome) → ((l : Option ℕ) (u : Search) → IsMarked (go l u))
      → IsMarked (after_look known go left t p o)
  marked_look go left t p None h = λ e. refl
  marked_look go left t p (Some outcome) h = marked_verdict go left t p outcome (verdict_of outcome) h

  marked_step : (go : Go) (left : Option ℕ) (t : Search) (a : Ask) → ((l : Option ℕ) (u : Search) → IsMarked (go l u)) → IsMarked (after_step known go left t a)
  marked_step go left t (Test p) h = marked_look go left t p (known p) h
  marked_step go left t (FirstBad p) h = λ e. cc
  marked_step go left t (OnlySkipped ps) h = λ e. cc
  marked_step go left t WaitBoth h = λ e. cc
  marked_step go left t WaitBad h = λ e. cc
  marked_step go left t WaitGood h = λ e. cc
  marked_step go left t (MergeBaseBad p) h = λ e. cc
  marked_step go left t (GoodNotAncestor p) h = λ e. cc
  marked_step go left t (BothSides p) h = λ e. cc

  marked_ask : (go : Go) (left : Option ℕ) (asked : Asked) → ((l : Option ℕ) (u : Search) → IsMarked (go l u)) → IsMarked (after_ask known go left asked)
  marked_ask go left asked h = λ e.
      marked_step go left asked.search asked.step.ask h e
      ∙ ap (λ (ms : List Mark). length ms) (sym (marks_of-warned asked.step.warned (after_step known go left asked.search asked.step.ask).entries))

  marked_turn : (graph : List (List ℕ)) (go : Go) (left : Option ℕ) (s : Search) → ((l : Option ℕ) (u : Search) → IsMarked (go l u))
      → IsMarked (turn graph known go left s)
  marked_turn graph go (Some zero) s h = λ e. refl
  marked_turn graph go (Some (suc k)) s h = marked_ask go (Some (suc k)) (ask graph s) h
  marked_turn graph go None s h = marked_ask go None (ask graph s) h

  marked_within : (n : ℕ) (graph : List (List ℕ)) (left : Option ℕ) (s : Search) → IsMarked (run_within n graph known left s)
  unfolding run_within
  marked_within zero graph left s = λ e. refl
  marked_within (suc n) graph left s = marked_turn graph (run_within n graph known) left s (λ l u. marked_within n graph l u)

  pub used_are_marked : (graph : List (List ℕ)) (left : Option ℕ) (s : Search) → IsMarked (run graph known left s)
  unfolding run
  used_are_marked graph left s = marked_within (suc (length graph)) graph left s

-- ---- a run that waits has asked

module _ (graph : List (List ℕ)) (known : Outcomes) where
  abbrev HasAsked : Run → Type 0
  HasAsked r = (p : ℕ) → r.end ≡ Open p → ask graph r.search ≡ record { search = r.search; step = record { warned = []; ask = Test p } }

  asked_verdict : (go : Go) (left : Option ℕ) (t : Search) (p : ℕ) (outcome : Outcome) (v : Verdict) → ((l : Option ℕ) (u : Search) → HasAsked (go l u))
      → HasAsked (after_verdict go left t p outcome v)
  asked_verdict go left t p outcome Abort h = λ q e. cc
  asked_verdict go left t p outcome (MarkOf m) h = h (marked_one left) (mark t m p)

  asked_look : (go : Go) (left : Option ℕ) (s : Search) (p : ℕ) (o : Option Outcome) → (ask graph s).step.ask ≡ Test p
      → ((l : Option ℕ) (u : Search) → HasAsked (go l u)) → HasAsked (after_look known go left (ask graph s).search p o)
  asked_look go left s p None is h = λ q e.
      let same : p ≡ q = cc in
      ask_again graph s ∙ ap (λ (a : Ask). record { search = (ask graph s).search; step = record { warned = []; ask = a } }) (is ∙ ap (λ (x : ℕ). Test x) same)
  asked_look go left s p (Some outcome) is h = asked_verdict go left (ask graph s).search p outcome (verdict_of outcome) h

  asked_step : (go : Go) (left : Option ℕ) (s : Search) (a : Ask) → (ask graph s).step.ask ≡ a → ((l : Option ℕ) (u : Search) → HasAsked (go l u))
      → HasAsked (after_step known go left (ask graph s).search a)
  asked_step go left s (Test p) is h = asked_look go left s p (known p) is h
  asked_step go left s (FirstBad p) is h = λ q e. cc
  asked_step go left s (OnlySkipped ps) is h = λ q e. cc
  asked_step go left s WaitBoth is h = λ q e. cc
  asked_step go left s WaitBad is h = λ q e. cc
  asked_step go left s WaitGood is h = λ q e. cc
  asked_step go left s (MergeBaseBad p) is h = λ q e. cc
  asked_step go left s (GoodNotAncestor p) is h = λ q e. cc
  asked_step go left s (BothSides p) is h = λ q e. cc

  asked_turn : (go : Go) (left : Option ℕ) (s : Search) → ((l : Option ℕ) (u : Search) → HasAsked (go l u)) → HasAsked (turn graph known go left s)
  asked_turn go (Some zero) s h = λ q e. cc
  asked_turn go (Some (suc k)) s h = asked_step go (Some (suc k)) s (ask graph s).step.ask refl h
  asked_turn go None s h = asked_step go None s (ask graph s).step.ask refl h

  asked_within : (n : ℕ) (left : Option ℕ) (s : Search) → HasAsked (run_within n graph known left s)
  unfolding run_within
  asked_within zero left s = λ q e. cc
  asked_within (suc n) left s = asked_turn (run_within n graph known) left s (λ l u. asked_within n l u)

  pub open_has_asked : (left : Option ℕ) (s : Search) → HasAsked (run graph known left s)
  unfolding run
  open_has_asked left s = asked_within (suc (length graph)) left s

-- ---- both ends stay known

abbrev IsPastWaiting : Ask → Type 0
IsPastWaiting WaitBoth = ⊥
IsPastWaiting WaitBad = ⊥
IsPastWaiting WaitGood = ⊥
IsPastWaiting other = Unit {0}

best_past : (s : Search) (warned ps : List ℕ) (chosen : Option ℕ) → IsPastWaiting (ask_best s warned ps chosen).step.ask
best_past s warned ps (Some p) = tt
best_past s warned ps None = tt

one_past : (b : Bool) (s : Search) (bad : ℕ) (warned ps : List ℕ) (chosen : Option ℕ)
    → IsPastWaiting (cond b (without_test s warned (FirstBad bad)) (ask_best s warned ps chosen)).step.ask
one_past true s bad warned ps chosen = tt
one_past false s bad warned ps chosen = best_past s warned ps chosen

among_past : (s : Search) (bad : ℕ) (warned ps : List ℕ) (chosen : Option ℕ) → IsPastWaiting (ask_among s bad warned ps chosen).step.ask
among_past s bad warned [] chosen = tt
among_past s bad warned (p ∷ []) chosen = one_past (p == bad) s bad warned (p ∷ []) chosen
among_past s bad warned (p ∷ q ∷ ps) chosen = best_past s warned (p ∷ q ∷ ps) chosen

base_past : (b : Bool) (p : ℕ) → IsPastWaiting (cond b (MergeBaseBad p) (GoodNotAncestor p))
base_past true p = tt
base_past false p = tt

checked_past : (graph : List (List ℕ)) (s : Search) (bad : ℕ) (c : Check) → IsPastWaiting (ask_checked graph s bad c).step.ask
checked_past graph s bad (TestBase p) = tt
checked_past graph s bad (BaseIsBad p) = base_past s.bad_asked p
checked_past graph s bad (Passed warned) = among_past (record s { checked = true }) bad warned (candidates graph bad s.goods s.first_parent)
    (best_of graph (record s { checked = true }) bad)

known_past : (b : Bool) (graph : List (List ℕ)) (s : Search) (bad : ℕ) (c : Check)
    → IsPastWaiting (cond b (ask_candidates graph s bad []) (ask_checked graph s bad c)).step.ask
known_past true graph s bad c = among_past s bad [] (candidates graph bad s.goods s.first_parent) (best_of graph s bad)
known_past false graph s bad c = checked_past graph s bad c

ask_past : (graph : List (List ℕ)) (s : Search) → HasEnds s → IsPastWaiting (ask graph s).step.ask
ask_past graph s ends =
    subst (λ (a : Asked). IsPastWaiting a.step.ask) (sym (known_ends graph s ends.bad ends.bad_is ends.some_good))
    (known_past s.checked graph s ends.bad (check graph ends.bad s.goods s.skips))

asked_ends : (graph : List (List ℕ)) (s : Search) → HasEnds s → HasEnds (ask graph s).search
asked_ends graph s ends = record {
  bad = ends.bad;
  bad_is = ap (λ (t : Search). t.bad) (ask_leaves graph s) ∙ ends.bad_is;
  some_good = λ e. ends.some_good (sym (ap (λ (t : Search). t.goods) (ask_leaves graph s)) ∙ e);
}

marked_ends : (s : Search) (m : Mark) (p : ℕ) → HasEnds s → HasEnds (mark s m p)
unfolding mark
marked_ends s Good p ends = record { bad = ends.bad; bad_is = ends.bad_is; some_good = by_test (has_place s.goods p) s.goods ends.some_good }
  where
    by_test : (b : Bool) (goods : List ℕ) → (goods ≡ [] → ⊥) → cond b goods (goods ++ p ∷ []) ≡ [] → ⊥
    by_test true goods h e = h e
    by_test false [] h e = h refl
    by_test false (q ∷ qs) h e = cc
marked_ends s Bad p ends = record { bad = p; bad_is = refl; some_good = ends.some_good }
marked_ends s Skip p ends = record { bad = ends.bad; bad_is = ends.bad_is; some_good = ends.some_good }

pub next_has_ends : (graph : List (List ℕ)) (s : Search) (m : Mark) (p : ℕ) → HasEnds s → HasEnds (mark (ask graph s).search m p)
next_has_ends graph s m p ends = marked_ends (ask graph s).search m p (asked_ends graph s ends)

module _ (graph : List (List ℕ)) (known : Outcomes) where
  abbrev EndsWell : Run → Type 0
  EndsWell r = (ending : Ending) × (end_of ending ≡ r.end)

  well_verdict : (go : Go) (left : Option ℕ) (t : Search) (p : ℕ) (outcome : Outcome) (v : Verdict)
      → ((m : Mark) → EndsWell (go (marked_one left) (mark t m p))) → EndsWell (after_verdict go left t p outcome v)
  well_verdict go left t p outcome Abort h = (endings.Aborted p outcome, refl)
  well_verdict go left t p outcome (MarkOf m) h = h m

  well_look : (go : Go) (left : Option ℕ) (t : Search) (p : ℕ) (o : Option Outcome) → ((m : Mark) → EndsWell (go (marked_one left) (mark t m p)))
      → EndsWell (after_look known go left t p o)
  well_look go left t p None h = (endings.TestFault p, refl)
  well_look go left t p (Some outcome) h = well_verdict go left t p outcome (verdict_of outcome) h

  well_step : (go : Go) (left : Option ℕ) (t : Search) (a : Ask) → IsPastWaiting a → ((p : ℕ) (m : Mark) → EndsWell (go (marked_one left) (mark t m p)))
      → EndsWell (after_step known go left t a)
  well_step go left t (Test p) past h = well_look go left t p (known p) (h p)
  well_step go left t (FirstBad p) past h = (endings.FirstBad p, refl)
  well_step go left t (OnlySkipped ps) past h = (endings.OnlySkipped ps, refl)
  well_step go left t (MergeBaseBad p) past h = (endings.MergeBaseBad p, refl)
  well_step go left t (GoodNotAncestor p) past h = (endings.GoodNotAncestor p, refl)
  well_step go left t (BothSides p) past h = (endings.BothSides p, refl)
  well_step go left t WaitBoth past h = absurd past
  well_step go left t WaitBad past h = absurd past
  well_step go left t WaitGood past h = absurd past

  well_turn : (go : Go) (left : Option ℕ) (s : Search) → HasEnds s → ((p : ℕ) (m : Mark) → EndsWell (go (marked_one left) (mark (ask graph s).search m p)))
      → EndsWell (turn graph known go left s)
  well_turn go (Some zero) s ends h = (endings.Leg, refl)
  well_turn go (Some (suc k)) s ends h = well_step go (Some (suc k)) (ask graph s).search (ask graph s).step.ask (ask_past graph s ends) h
  well_turn go None s ends h = well_step go None (ask graph s).search (ask graph s).step.ask (ask_past graph s ends) h

  well_within : (n : ℕ) (left : Option ℕ) (s : Search) → HasEnds s → EndsWell (run_within n graph known left s)
  unfolding run_within
  well_within zero left s ends = (endings.Leg, refl)
  well_within (suc n) left s ends = well_turn (run_within n graph known) left s ends
      (λ p m. well_within n (marked_one left) (mark (ask graph s).search m p) (next_has_ends graph s m p ends))

  pub ends_well : (left : Option ℕ) (s : Search) → HasEnds s → EndsWell (run graph known left s)
  unfolding run
  ends_well left s ends = well_within (suc (length graph)) left s ends

-- the state that a run reaches has both ends
module _ (graph : List (List ℕ)) (known : Outcomes) where
  kept_verdict : (go : Go) (left : Option ℕ) (t : Search) (p : ℕ) (outcome : Outcome) (v : Verdict) → HasEnds t
      → ((l : Option ℕ) (u : Search) → HasEnds u → HasEnds (go l u).search) → HasEnds (after_verdict go left t p outcome v).search
  kept_verdict go left t p outcome Abort ends h = ends
  kept_verdict go left t p outcome (MarkOf m) ends h = h (marked_one left) (mark t m p) (marked_ends t m p ends)

  kept_look : (go : Go) (left : Option ℕ) (t : Search) (p : ℕ) (o : Option Outcome) → HasEnds t
      → ((l : Option ℕ) (u : Search) → HasEnds u → HasEnds (go l u).search) → HasEnds (after_look known go left t p o).search
  kept_look go left t p None ends h = ends
  kept_look go left t p (Some outcome) ends h = kept_verdict go left t p outcome (verdict_of outcome) ends h

  kept_step : (go : Go) (left : Option ℕ) (t : Search) (a : Ask) → HasEnds t → ((l : Option ℕ) (u : Search) → HasEnds u → HasEnds (go l u).search)
      → HasEnds (after_step known go left t a).search
  kept_step go left t (Test p) ends h = kept_look go left t p (known p) ends h
  kept_step go left t (FirstBad p) ends h = ends
  kept_step go left t (OnlySkipped ps) ends h = ends
  kept_step go left t WaitBoth ends h = ends
  kept_step go left t WaitBad ends h = ends
  kept_step go left t WaitGood ends h = ends
  kept_step go left t (MergeBaseBad p) ends h = ends
  kept_step go left t (GoodNotAncestor p) ends h = ends
  kept_step go left t (BothSides p) ends h = ends

  kept_turn : (go : Go) (left : Option ℕ) (s : Search) → HasEnds s → ((l : Option ℕ) (u : Search) → HasEnds u → HasEnds (go l u).search)
      → HasEnds (turn graph known go left s).search
  kept_turn go (Some zero) s ends h = ends
  kept_turn go (Some (suc k)) s ends h = kept_step go (Some (suc k)) (ask graph s).search (ask graph s).step.ask (asked_ends graph s ends) h
  kept_turn go None s ends h = kept_step go None (ask graph s).search (ask graph s).step.ask (asked_ends graph s ends) h

  kept_within : (n : ℕ) (left : Option ℕ) (s : Search) → HasEnds s → HasEnds (run_within n graph known left s).search
  unfolding run_within
  kept_within zero left s ends = ends
  kept_within (suc n) left s ends = kept_turn (run_within n graph known) left s ends (λ l u e. kept_within n l u e)

  pub ends_kept : (left : Option ℕ) (s : Search) → HasEnds s → HasEnds (run graph known left s).search
  unfolding run
  ends_kept left s ends = kept_within (suc (length graph)) left s ends

-- ---- a base that is bad

pub bad_base_is_told : (graph : List (List ℕ)) (s : Search) (q : ℕ) → IsGraph graph → (ask graph s).step.ask ≡ Test q → (ask graph s).search.checked ≡ false
    → (ask graph (mark (ask graph s).search Bad q)).step ≡ record { warned = []; ask = MergeBaseBad q }
unfolding mark
bad_base_is_told graph s q g h unpassed = by_kind (asked_by graph s q h)
  where
    t : Search
    t = mark (ask graph s).search Bad q

    a : Asking graph s (ask graph s) q
    a = asking graph s q g h

    by_kind : AskedBy graph s (ask graph s) q → (ask graph t).step ≡ record { warned = []; ask = MergeBaseBad q }
    by_kind (among_candidates c k) = absurd (false_is c unpassed)
      where
        false_is : {b : Bool} → b ≡ true → b ≡ false → ⊥
        false_is e f = cc
    by_kind (by_check bad b n unchecked tested) =
        ap (λ (x : Asked). x.step)
        (known_ends graph t q refl (λ e. n (sym a.same.goods ∙ e))
        ∙ ap (λ (v : Bool). cond v (ask_candidates graph t q []) (ask_checked graph t q (check graph q t.goods t.skips)))
        (ap (λ (v : Bool). v && is_expected (ask graph s).search q) unpassed)
        ∙ ap (λ (c : Check). ask_checked graph t q c) (check_after_bad graph s bad q g h b tested)
        ∙ ap (λ (v : Bool). without_test t [] (cond v (MergeBaseBad q) (GoodNotAncestor q))) (expected_is graph s q g h))
