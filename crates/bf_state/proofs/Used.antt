-- The outcomes that a run used tell all of it.
use Rattle.std.proofs.Common.{◌≡◌, ◌≢◌, ℕ, zero, suc, ◌<◌, true, ◌==◌, List, [], ◌∷◌, length, get_or, map, Option, Some, None, refl, sym, ap, ◌∙◌, ⊎_elim}
use Rattle.std.proofs.Common.{arith, eqb-true, eq-eqb}
use Rattle.std.proofs.lemmas.Bool.{cases_Bool, cond-true, cond-false}
use Rattle.std.proofs.lemmas.List.Elements.{All-nil, All-head, All-tail, All-cons}
use Rattle.std.proofs.lemmas.List.Kept.{AllPairs-cons}
use Rattle.std.specs.List.{All, AllPairs}
use Rattle.std.specs.Option.{IfSome}
use Rattle.bf_graph.specs.Graph.{IsGraph}
use Rattle.bf_search.specs.declared.asks.Ask.{Ask}
use Rattle.bf_search.specs.declared.asks.Ask.TheVariants.{WaitBoth, WaitBad, WaitGood, Test, MergeBaseBad, GoodNotAncestor, BothSides, FirstBad, OnlySkipped}
use Rattle.bf_search.specs.declared.entries.Entry.{Entry}
use Rattle.bf_search.specs.declared.entries.Entry.TheVariants.{Marked, SkippedBase, FirstBadFound, OnlySkippedLeft}
use Rattle.bf_search.specs.declared.outcomes.Outcome.{Outcome}
use Rattle.bf_search.specs.declared.outcomes.Mark.{Mark}
use Rattle.bf_search.specs.declared.outcomes.Verdict.{Verdict}
use Rattle.bf_search.specs.declared.outcomes.Verdict.TheVariants.{Mark as MarkOf, Abort}
use Rattle.bf_search.specs.Outcomes.{Outcomes, verdict_of, outcomes_of_pairs}
use Rattle.bf_search.specs.State.{Search, IsSearchOver, Asked, ask, mark}
use Rattle.bf_search.specs.LeftToAsk.{may_ask}
use Rattle.bf_search.specs.Run.{End, Answered, Leg, Open, Run, ended, with_entries, with_used, marked_one, after_verdict, after_look, after_step, after_ask}
use Rattle.bf_search.specs.Run.{turn, run_within, run}
use Rattle.bf_search.proofs.Turns.{asking, may_ask_from, may_ask_asked, IsSearchOver-marked}
use Rattle.bf_state.specs.Runs.{IsPartOf}
use Rattle.bf_state.specs.Used.{TellsUsed}
use Rattle.bf_state.proofs.AskedOnce.{before_step}

abbrev Go : Type 0
Go = Option ℕ → Search → Run

-- ---- other outcomes that tell what a run used give the same run

module _ (known more : Outcomes) where
  abbrev IsSame : Run → Run → Type 0
  IsSame r other = TellsUsed more r → other ≡ r

  verdict_same : (go other : Go) (left : Option ℕ) (t : Search) (p : ℕ) (outcome : Outcome) (v : Verdict)
      → ((l : Option ℕ) (u : Search) → IsSame (go l u) (other l u))
      → IsSame (after_verdict go left t p outcome v) (after_verdict other left t p outcome v)
  verdict_same go other left t p outcome Abort h = λ tells. refl
  verdict_same go other left t p outcome (MarkOf m) h = λ tells.
      ap (λ (r : Run). with_entries (Marked m p ∷ []) r) (h (marked_one left) (mark t m p) (record { used = tells.used; unknown = tells.unknown }))

  look_same : (go other : Go) (left : Option ℕ) (t : Search) (p : ℕ) (o : Option Outcome) → ((l : Option ℕ) (u : Search) → IsSame (go l u) (other l u))
      → IsSame (after_look known go left t p o) (after_look more other left t p (more p))
  look_same go other left t p None h = λ tells. ap (λ (x : Option Outcome). after_look more other left t p x) (tells.unknown p refl)
  look_same go other left t p (Some outcome) h = λ tells.
      let rest : Run = after_verdict go left t p outcome (verdict_of outcome) in
      ap (λ (x : Option Outcome). after_look more other left t p x)
      (All-head (λ (pair : ℕ × Outcome). more pair.0 ≡ Some pair.1) (p, outcome) rest.used tells.used)
      ∙ ap (λ (r : Run). with_used p outcome r)
      (verdict_same go other left t p outcome (verdict_of outcome) h
      (record { used = All-tail (λ (pair : ℕ × Outcome). more pair.0 ≡ Some pair.1) (p, outcome) rest.used tells.used; unknown = tells.unknown }))

  step_same : (go other : Go) (left : Option ℕ) (t : Search) (a : Ask) → ((l : Option ℕ) (u : Search) → IsSame (go l u) (other l u))
      → IsSame (after_step known go left t a) (after_step more other left t a)
  step_same go other left t (Test p) h = look_same go other left t p (known p) h
  step_same go other left t (FirstBad p) h = λ tells. refl
  step_same go other left t (OnlySkipped ps) h = λ tells. refl
  step_same go other left t WaitBoth h = λ tells. refl
  step_same go other left t WaitBad h = λ tells. refl
  step_same go other left t WaitGood h = λ tells. refl
  step_same go other left t (MergeBaseBad p) h = λ tells. refl
  step_same go other left t (GoodNotAncestor p) h = λ tells. refl
  step_same go other left t (BothSides p) h = λ tells. refl

  ask_same : (go other : Go) (left : Option ℕ) (asked : Asked) → ((l : Option ℕ) (u : Search) → IsSame (go l u) (other l u))
      → IsSame (after_ask known go left asked) (after_ask more other left asked)
  ask_same go other left asked h = λ tells.
      ap (λ (r : Run). with_entries (map (λ p. SkippedBase p) asked.step.warned) r)
      (step_same go other left asked.search asked.step.ask h (record { used = tells.used; unknown = tells.unknown }))

  turn_same : (graph : List (List ℕ)) (go other : Go) (left : Option ℕ) (s : Search) → ((l : Option ℕ) (u : Search) → IsSame (go l u) (other l u))
      → IsSame (turn graph known go left s) (turn graph more other left s)
  turn_same graph go other (Some zero) s h = λ tells. refl
  turn_same graph go other (Some (suc k)) s h = ask_same go other (Some (suc k)) (ask graph s) h
  turn_same graph go other None s h = ask_same go other None (ask graph s) h

  within_same : (n : ℕ) (graph : List (List ℕ)) (left : Option ℕ) (s : Search) → IsSame (run_within n graph known left s) (run_within n graph more left s)
  unfolding run_within
  within_same zero graph left s = λ tells. refl
  within_same (suc n) graph left s = turn_same graph (run_within n graph known) (run_within n graph more) left s (λ l u. within_same n graph l u)

  pub same_used : (graph : List (List ℕ)) (left : Option ℕ) (s : Search) → TellsUsed more (run graph known left s)
      → run graph more left s ≡ run graph known left s
  unfolding run
  same_used graph left s tells = within_same (suc (length graph)) graph left s tells

-- ---- what is known tells what a run used

module _ (known : Outcomes) where
  told_entries : (es : List Entry) (r : Run) → TellsUsed known r → TellsUsed known (with_entries es r)
  told_entries es r tells = record { used = tells.used; unknown = tells.unknown }

  told_end : (es : List Entry) (t : Search) (a : Ask) → TellsUsed known (ended es t (Answered a))
  told_end es t a = record { used = All-nil (λ (pair : ℕ × Outcome). known pair.0 ≡ Some pair.1); unknown = λ p e. cc }

  told_verdict : (go : Go) (left : Option ℕ) (t : Search) (p : ℕ) (outcome : Outcome) (v : Verdict) → ((l : Option ℕ) (u : Search) → TellsUsed known (go l u))
      → TellsUsed known (after_verdict go left t p outcome v)
  told_verdict go left t p outcome Abort h = record { used = All-nil (λ (pair : ℕ × Outcome). known pair.0 ≡ Some pair.1); unknown = λ q e. cc }
  told_verdict go left t p outcome (MarkOf m) h = told_entries (Marked m p ∷ []) (go (marked_one left) (mark t m p)) (h (marked_one left) (mark t m p))

  told_look : (go : Go) (left : Option ℕ) (t : Search) (p : ℕ) (o : Option Outcome) → known p ≡ o → ((l : Option ℕ) (u : Search) → TellsUsed known (go l u))
      → TellsUsed known (after_look known go left t p o)
  told_look go left t p None k h = record {
    used = All-nil (λ (pair : ℕ × Outcome). known pair.0 ≡ Some pair.1);
    unknown = λ q e. let same : p ≡ q = cc in ap
        known (sym same) ∙ k;
  }
  told_look go left t p (Some outcome) k h =
      let rest : TellsUsed known (after_verdict go left t p outcome (verdict_of outcome)) = told_verdict go left t p outcome (verdict_of outcome) h in
      record {
        used = All-cons (λ (pair : ℕ × Outcome). known pair.0 ≡ Some pair.1) (p, outcome) (after_verdict go left t p outcome (verdict_of outcome)).used k
            rest.used;
        unknown = rest.unknown;
      }

  told_step : (go : Go) (left : Option ℕ) (t : Search) (a : Ask) → ((l : Option ℕ) (u : Search) → TellsUsed known (go l u))
      → TellsUsed known (after_step known go left t a)
  told_step go left t (Test p) h = told_look go left t p (known p) refl h
  told_step go left t (FirstBad p) h = told_end (FirstBadFound p ∷ []) t (FirstBad p)
  told_step go left t (OnlySkipped ps) h = told_end (OnlySkippedLeft ps ∷ []) t (OnlySkipped ps)
  told_step go left t WaitBoth h = told_end [] t WaitBoth
  told_step go left t WaitBad h = told_end [] t WaitBad
  told_step go left t WaitGood h = told_end [] t WaitGood
  told_step go left t (MergeBaseBad p) h = told_end [] t (MergeBaseBad p)
  told_step go left t (GoodNotAncestor p) h = told_end [] t (GoodNotAncestor p)
  told_step go left t (BothSides p) h = told_end [] t (BothSides p)

  told_turn : (graph : List (List ℕ)) (go : Go) (left : Option ℕ) (s : Search) → ((l : Option ℕ) (u : Search) → TellsUsed known (go l u))
      → TellsUsed known (turn graph known go left s)
  told_turn graph go (Some zero) s h = record { used = All-nil (λ (pair : ℕ × Outcome). known pair.0 ≡ Some pair.1); unknown = λ p e. cc }
  told_turn graph go (Some (suc k)) s h = told_entries (map (λ p. SkippedBase p) (ask graph s).step.warned)
      (after_step known go (Some (suc k)) (ask graph s).search (ask graph s).step.ask)
      (told_step go (Some (suc k)) (ask graph s).search (ask graph s).step.ask h)
  told_turn graph go None s h = told_entries (map (λ p. SkippedBase p) (ask graph s).step.warned)
      (after_step known go None (ask graph s).search (ask graph s).step.ask) (told_step go None (ask graph s).search (ask graph s).step.ask h)

  told_within : (n : ℕ) (graph : List (List ℕ)) (left : Option ℕ) (s : Search) → TellsUsed known (run_within n graph known left s)
  unfolding run_within
  told_within zero graph left s = record { used = All-nil (λ (pair : ℕ × Outcome). known pair.0 ≡ Some pair.1); unknown = λ p e. cc }
  told_within (suc n) graph left s = told_turn graph (run_within n graph known) left s (λ l u. told_within n graph l u)

  pub told : (graph : List (List ℕ)) (left : Option ℕ) (s : Search) → TellsUsed known (run graph known left s)
  unfolding run
  told graph left s = told_within (suc (length graph)) graph left s

-- ---- a post off the path

pub off_the_path : (graph : List (List ℕ)) (known more : Outcomes) (left : Option ℕ) (s : Search) (q : ℕ) → IsPartOf known more
    → (run graph known left s).end ≡ Open q → more q ≡ None → run graph more left s ≡ run graph known left s
off_the_path graph known more left s q part end none = same_used known more graph left s (record {
  used = λ k d l. carried (known (get_or used k d).0) (part (get_or used k d).0) ((told known graph left s).used k d l);
  unknown = λ p e. let same : p ≡ q = open_same (sym e ∙ end) in ap more same ∙ none;
})
  where
    used : List (ℕ × Outcome)
    used = (run graph known left s).used

    open_same : {x y : ℕ} → Open x ≡ Open y → x ≡ y
    open_same e = cc

    carried : {outcome : Outcome} {o : Option Outcome} (k : Option Outcome) → IfSome k (λ x. o ≡ Some x) → k ≡ Some outcome → o ≡ Some outcome
    carried None h e = cc
    carried (Some x) h e = h ∙ e

-- ---- the pairs

pair_found : (known : Outcomes) (pairs : List (ℕ × Outcome)) → All (λ (pair : ℕ × Outcome). known pair.0 ≡ Some pair.1) pairs
    → All (λ (pair : ℕ × Outcome). outcomes_of_pairs pairs pair.0 ≡ Some pair.1) pairs
pair_found known [] h = λ k d l. absurd (omega arith)
pair_found known ((q, outcome) ∷ pairs) h = λ k d l. by_index (pair_found known pairs rest) k d l
  where
    rest : All (λ (pair : ℕ × Outcome). known pair.0 ≡ Some pair.1) pairs
    rest = All-tail (λ (pair : ℕ × Outcome). known pair.0 ≡ Some pair.1) (q, outcome) pairs h

    here : known q ≡ Some outcome
    here = All-head (λ (pair : ℕ × Outcome). known pair.0 ≡ Some pair.1) (q, outcome) pairs h

    by_index : All (λ (pair : ℕ × Outcome). outcomes_of_pairs pairs pair.0 ≡ Some pair.1) pairs → (k : ℕ) (d : ℕ × Outcome) → k < suc (length pairs)
        → outcomes_of_pairs ((q, outcome) ∷ pairs) (get_or ((q, outcome) ∷ pairs) k d).0 ≡ Some (get_or ((q, outcome) ∷ pairs) k d).1
    by_index found zero d l = cond-true (q == q) (Some outcome) (outcomes_of_pairs pairs q) (eq-eqb q q refl)
    by_index found (suc k) d l =
        ⊎_elim
        (λ yes. cond-true (q == (get_or pairs k d).0) (Some outcome) (outcomes_of_pairs pairs (get_or pairs k d).0) yes ∙ sym here ∙ ap known
        (eqb-true q (get_or pairs k d).0 yes) ∙ rest k d (omega arith))
        (λ other. cond-false (q == (get_or pairs k d).0) (Some outcome) (outcomes_of_pairs pairs (get_or pairs k d).0) other ∙ found k d (omega arith))
        (cases_Bool (q == (get_or pairs k d).0))

-- an outcome that is known is no unknown one
pub clash : {x : Outcome} → Some x ≡ None → ⊥
clash e = cc

pair_unknown : (known : Outcomes) (pairs : List (ℕ × Outcome)) (p : ℕ) → All (λ (pair : ℕ × Outcome). known pair.0 ≡ Some pair.1) pairs → known p ≡ None
    → outcomes_of_pairs pairs p ≡ None
pair_unknown known [] p h none = refl
pair_unknown known ((q, outcome) ∷ pairs) p h none =
    ⊎_elim
    (λ yes. absurd (clash (sym (All-head (λ (pair : ℕ × Outcome). known pair.0 ≡ Some pair.1) (q, outcome) pairs h) ∙ ap known (eqb-true q p yes) ∙ none)))
    (λ other. cond-false (q == p) (Some outcome) (outcomes_of_pairs pairs p) other ∙ pair_unknown known pairs p
    (All-tail (λ (pair : ℕ × Outcome). known pair.0 ≡ Some pair.1) (q, outcome) pairs h) none)
    (cases_Bool (q == p))

-- The pairs that a run used tell the run.
pub pairs_tell : (graph : List (List ℕ)) (known : Outcomes) (left : Option ℕ) (s : Search)
    → run graph (outcomes_of_pairs (run graph known left s).used) left s ≡ run graph known left s
pairs_tell graph known left s =
    same_used known (outcomes_of_pairs (run graph known left s).used) graph left s (record {
      used = pair_found known (run graph known left s).used (told known graph left s).used;
      unknown = λ p e. pair_unknown known (run graph known left s).used p (told known graph left s).used ((told known graph left s).unknown p e);
    })

-- ---- no place is used twice

module _ (graph : List (List ℕ)) (known : Outcomes) (g : IsGraph graph) where
  record IsFresh (s : Search) (r : Run) : Type 0 where
    may : All (λ (pair : ℕ × Outcome). may_ask graph s pair.0 ≡ true) r.used
    differ : AllPairs (λ (a b : ℕ × Outcome). a.0 ≢ b.0) r.used

  fresh_none : (s t : Search) (es : List Entry) (e : End) → IsFresh s (ended es t e)
  fresh_none s t es e = record { may = All-nil (λ (pair : ℕ × Outcome). may_ask graph s pair.0 ≡ true); differ = λ i j d l m. absurd (omega arith) }

  fresh_verdict : (go : Go) (left : Option ℕ) (s : Search) (p : ℕ) (outcome : Outcome) (v : Verdict) → IsSearchOver graph s → (ask graph s).step.ask ≡ Test p
      → ((m : Mark) → IsFresh (mark (ask graph s).search m p) (go (marked_one left) (mark (ask graph s).search m p)))
      → IsFresh s (with_used p outcome (after_verdict go left (ask graph s).search p outcome v))
  fresh_verdict go left s p outcome Abort over h each = record {
    may = All-cons (λ (pair : ℕ × Outcome). may_ask graph s pair.0 ≡ true) (p, outcome) [] (may_ask_asked graph s p g (asking graph s p g h).asks_for)
        (All-nil (λ (pair : ℕ × Outcome). may_ask graph s pair.0 ≡ true));
    differ = λ i j d l m. absurd (omega arith);
  }
  fresh_verdict go left s p outcome (MarkOf m) over h each =
      let rest : Run = go (marked_one left) (mark (ask graph s).search m p) in
      let fresh : IsFresh (mark (ask graph s).search m p) rest = each m in
      record {
        may = All-cons (λ (pair : ℕ × Outcome). may_ask graph s pair.0 ≡ true) (p, outcome) rest.used
            (may_ask_asked graph s p g (asking graph s p g h).asks_for)
            (λ k d l. may_ask_from graph s (get_or rest.used k d).0 (before_step graph s m p (get_or rest.used k d).0 g over h (fresh.may k d l)).0);
        differ = AllPairs-cons (λ (a b : ℕ × Outcome). a.0 ≢ b.0) (p, outcome) rest.used
            (λ k d l. (before_step graph s m p (get_or rest.used k d).0 g over h (fresh.may k d l)).1) fresh.differ;
      }

  fresh_look : (go : Go) (left : Option ℕ) (s : Search) (p : ℕ) (o : Option Outcome) → IsSearchOver graph s → (ask graph s).step.ask ≡ Test p
      → ((m : Mark) → IsFresh (mark (ask graph s).search m p) (go (marked_one left) (mark (ask graph s).search m p)))
      → IsFresh s (after_look known go left (ask graph s).search p o)
  fresh_look go left s p None over h each = fresh_none s (ask graph s).search [] (Open p)
  fresh_look go left s p (Some outcome) over h each = fresh_verdict go left s p outcome (verdict_of outcome) over h each

  fresh_step : (go : Go) (left : Option ℕ) (s : Search) (a : Ask) → IsSearchOver graph s → (ask graph s).step.ask ≡ a
      → ((p : ℕ) (m : Mark) → (ask graph s).step.ask ≡ Test p → IsFresh (mark (ask graph s).search m p) (go (marked_one left) (mark (ask graph s).search m p)))
      → IsFresh s (after_step known go left (ask graph s).search a)
  fresh_step go left s (Test p) over h each = fresh_look go left s p (known p) over h (λ m. each p m h)
  fresh_step go left s (FirstBad p) over h each = fresh_none s (ask graph s).search (FirstBadFound p ∷ []) (Answered (FirstBad p))
  fresh_step go left s (OnlySkipped ps) over h each = fresh_none s (ask graph s).search (OnlySkippedLeft ps ∷ []) (Answered (OnlySkipped ps))
  fresh_step go left s WaitBoth over h each = fresh_none s (ask graph s).search [] (Answered WaitBoth)
  fresh_step go left s WaitBad over h each = fresh_none s (ask graph s).search [] (Answered WaitBad)
  fresh_step go left s WaitGood over h each = fresh_none s (ask graph s).search [] (Answered WaitGood)
  fresh_step go left s (MergeBaseBad p) over h each = fresh_none s (ask graph s).search [] (Answered (MergeBaseBad p))
  fresh_step go left s (GoodNotAncestor p) over h each = fresh_none s (ask graph s).search [] (Answered (GoodNotAncestor p))
  fresh_step go left s (BothSides p) over h each = fresh_none s (ask graph s).search [] (Answered (BothSides p))

  fresh_ask : (go : Go) (left : Option ℕ) (s : Search) → IsSearchOver graph s
      → ((p : ℕ) (m : Mark) → (ask graph s).step.ask ≡ Test p → IsFresh (mark (ask graph s).search m p) (go (marked_one left) (mark (ask graph s).search m p)))
      → IsFresh s (after_ask known go left (ask graph s))
  fresh_ask go left s over each =
      let inner : IsFresh s (after_step known go left (ask graph s).search (ask graph s).step.ask) = fresh_step go left s (ask graph s).step.ask over refl
      each in
      record { may = inner.may; differ = inner.differ }

  fresh_turn : (go : Go) (left : Option ℕ) (s : Search) → IsSearchOver graph s
      → ((p : ℕ) (m : Mark) → (ask graph s).step.ask ≡ Test p → IsFresh (mark (ask graph s).search m p) (go (marked_one left) (mark (ask graph s).search m p)))
      → IsFresh s (turn graph known go left s)
  fresh_turn go (Some zero) s over each = fresh_none s s [] Leg
  fresh_turn go (Some (suc k)) s over each = fresh_ask go (Some (suc k)) s over each
  fresh_turn go None s over each = fresh_ask go None s over each

  fresh_within : (n : ℕ) (left : Option ℕ) (s : Search) → IsSearchOver graph s → IsFresh s (run_within n graph known left s)
  unfolding run_within
  fresh_within zero left s over = fresh_none s s [] Leg
  fresh_within (suc n) left s over =
      fresh_turn (run_within n graph known) left s over
      (λ p m h. fresh_within n (marked_one left) (mark (ask graph s).search m p) (IsSearchOver-marked graph s m p g over h))

  pub used_differ : (left : Option ℕ) (s : Search) → IsSearchOver graph s → AllPairs (λ (a b : ℕ × Outcome). a.0 ≢ b.0) (run graph known left s).used
  unfolding run
  used_differ left s over = (fresh_within (suc (length graph)) left s over).differ
