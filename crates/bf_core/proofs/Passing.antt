-- A run goes along the paths: what they ask for from its start they ask for where it waits, or where its leg is over,
-- unless it is known.
use Rattle.std.proofs.Common.{◌≡◌, ℕ, zero, suc, List, [], ◌∷◌, length, Option, Some, None, refl, sym, ap, ◌∙◌, subst}
use Rattle.bf_search.specs.declared.asks.Ask.{Ask}
use Rattle.bf_search.specs.declared.asks.Ask.TheVariants.{WaitBoth, WaitBad, WaitGood, Test, MergeBaseBad, GoodNotAncestor, BothSides, FirstBad, OnlySkipped}
use Rattle.bf_search.specs.declared.outcomes.Mark.{Mark}
use Rattle.bf_search.specs.declared.outcomes.Outcome.{Outcome}
use Rattle.bf_search.specs.declared.outcomes.Verdict.{Verdict}
use Rattle.bf_search.specs.declared.outcomes.Verdict.TheVariants.{Mark as MarkOf, Abort}
use Rattle.bf_search.specs.Outcomes.{Outcomes, verdict_of}
use Rattle.bf_search.specs.State.{Search, Asked, ask, mark}
use Rattle.bf_search.specs.Run.{Run, marked_one, after_verdict, after_look, after_step, turn, run_within, run}
use Rattle.bf_state.proofs.AskAgain.{ask_again}
use Rattle.bf_search.specs.OpenPaths.{left_of, Allows, Leads}
use Rattle.bf_spec.specs.Ways.{IsAsked}
use Rattle.bf_core.specs.Claims.{GoesOn}

abbrev Go : Type 0
Go = Option ℕ → Search → Run

module _ (graph : List (List ℕ)) (known : Outcomes) where
  -- what follows an ask, as the paths see it
  abbrev LeadsOn : Asked → List Mark → ℕ → ℕ → Type 0
  LeadsOn a [] p left = (a.step.ask ≡ Test p) × (left ≡ left_of graph a.search)
  LeadsOn a (m ∷ ms) p left = (q : ℕ) × (a.step.ask ≡ Test q) × Allows (known q) m × Leads graph known (mark a.search m q) ms p left

  leads_again : (s : Search) (ms : List Mark) (p left : ℕ) → Leads graph known s ms p left → Leads graph known (ask graph s).search ms p left
  leads_again s [] p left h = subst (λ (a : Asked). (a.step.ask ≡ Test p) × (left ≡ left_of graph a.search)) (sym (ask_again graph s)) h
  leads_again s (m ∷ ms) p left h = subst (λ (a : Asked). (q : ℕ) × (a.step.ask ≡ Test q) × Allows (known q) m × Leads graph known (mark a.search m q) ms p
      left) (sym (ask_again graph s)) h

  leads_before : (s : Search) (ms : List Mark) (p left : ℕ) → Leads graph known (ask graph s).search ms p left → Leads graph known s ms p left
  leads_before s [] p left h = subst (λ (a : Asked). (a.step.ask ≡ Test p) × (left ≡ left_of graph a.search)) (ask_again graph s) h
  leads_before s (m ∷ ms) p left h = subst (λ (a : Asked). (q : ℕ) × (a.step.ask ≡ Test q) × Allows (known q) m × Leads graph known (mark a.search m q) ms p
      left) (ask_again graph s) h

  -- both ways between a start and the end of a run that goes on there
  pub record IsPassing (s t : Search) : Type 0 where
    pub on : (p : ℕ) → known p ≡ None → IsAsked graph known s p → IsAsked graph known t p
    pub back : (p : ℕ) → IsAsked graph known t p → IsAsked graph known s p

  abbrev Passes : Search → Run → Type 0
  Passes s r = GoesOn r.end → IsPassing s r.search

  stays_here : (s : Search) → IsPassing s s
  stays_here s = record { on = λ p unknown a. a; back = λ p a. a }

  pub asked_here : (s : Search) → IsPassing s (ask graph s).search
  asked_here s = record {
    on = λ p unknown a. (a.0, a.1, leads_again s a.0 p a.1 a.2);
    back = λ p a. (a.0, a.1, leads_before s a.0 p a.1 a.2);
  }

  -- a known outcome forces the first mark
  forced : (s : Search) (q p : ℕ) (outcome : Outcome) (m : Mark) (ms : List Mark) (left : ℕ) → (ask graph s).step.ask ≡ Test q → known q ≡ Some outcome
      → verdict_of outcome ≡ MarkOf m
      → known p ≡ None → Leads graph known s ms p left → IsAsked graph known (mark (ask graph s).search m q) p
  forced s q p outcome m [] left asks is v unknown h = let e : q ≡ p = cc in let clash : known q ≡ None = ap known e ∙ unknown in cc
  forced s q p outcome m (n ∷ ms) left asks is v unknown (r, h, allowed, rest) =
      let e : r ≡ q = cc in
      let here : known r ≡ Some outcome = ap known e ∙ is in
      let told : verdict_of outcome ≡ MarkOf n = subst (λ (o : Option Outcome). Allows o n) here allowed in
      let same : n ≡ m = cc in (
        ms,
        left,
        subst (λ (k : Mark). Leads graph known (mark (ask graph s).search k q) ms p left) same
            (subst (λ (x : ℕ). Leads graph known (mark (ask graph s).search n x) ms p left) e rest),
      )

  marked_on : (s t : Search) (q : ℕ) (outcome : Outcome) (m : Mark) → (ask graph s).step.ask ≡ Test q → known q ≡ Some outcome → verdict_of outcome ≡ MarkOf m
      → IsPassing (mark (ask graph s).search m q) t → IsPassing s t
  marked_on s t q outcome m asks is v rest = record {
    on = λ p unknown a. rest.on p unknown (forced s q p outcome m a.0 a.1 asks is v unknown a.2);
    back = λ p a.
        let b = rest.back p a in
        (m ∷ b.0, b.1, (q, asks, subst (λ (o : Option Outcome). Allows o m) (sym is) v, b.2));
  }

  verdict_passes : (go : Go) (left : Option ℕ) (s : Search) (q : ℕ) (outcome : Outcome) (v : Verdict) → (ask graph s).step.ask ≡ Test q → known q ≡ Some outcome
      → verdict_of outcome ≡ v
      → ((l : Option ℕ) (t : Search) → Passes t (go l t)) → Passes s (after_verdict go left (ask graph s).search q outcome v)
  verdict_passes go left s q outcome Abort asks is v h = λ e. absurd e
  verdict_passes go left s q outcome (MarkOf m) asks is v h = λ e.
      marked_on s (go (marked_one left) (mark (ask graph s).search m q)).search q outcome m asks is v (h (marked_one left) (mark (ask graph s).search m q) e)

  look_passes : (go : Go) (left : Option ℕ) (s : Search) (q : ℕ) (o : Option Outcome) → (ask graph s).step.ask ≡ Test q → known q ≡ o
      → ((l : Option ℕ) (t : Search) → Passes t (go l t)) → Passes s (after_look known go left (ask graph s).search q o)
  look_passes go left s q None asks is h = λ e. asked_here s
  look_passes go left s q (Some outcome) asks is h = verdict_passes go left s q outcome (verdict_of outcome) asks is refl h

  step_passes : (go : Go) (left : Option ℕ) (s : Search) (a : Ask) → (ask graph s).step.ask ≡ a
      → ((l : Option ℕ) (t : Search) → Passes t (go l t)) → Passes s (after_step known go left (ask graph s).search a)
  step_passes go left s (Test q) asks h = look_passes go left s q (known q) asks refl h
  step_passes go left s (FirstBad q) asks h = λ e. absurd e
  step_passes go left s (OnlySkipped qs) asks h = λ e. absurd e
  step_passes go left s WaitBoth asks h = λ e. absurd e
  step_passes go left s WaitBad asks h = λ e. absurd e
  step_passes go left s WaitGood asks h = λ e. absurd e
  step_passes go left s (MergeBaseBad q) asks h = λ e. absurd e
  step_passes go left s (GoodNotAncestor q) asks h = λ e. absurd e
  step_passes go left s (BothSides q) asks h = λ e. absurd e

  turn_passes : (go : Go) (left : Option ℕ) (s : Search) → ((l : Option ℕ) (t : Search) → Passes t (go l t)) → Passes s (turn graph known go left s)
  turn_passes go (Some zero) s h = λ e. stays_here s
  turn_passes go (Some (suc k)) s h = step_passes go (Some (suc k)) s (ask graph s).step.ask refl h
  turn_passes go None s h = step_passes go None s (ask graph s).step.ask refl h

  within_passes : (n : ℕ) (left : Option ℕ) (s : Search) → Passes s (run_within n graph known left s)
  unfolding run_within
  within_passes zero left s = λ e. stays_here s
  within_passes (suc n) left s = turn_passes (run_within n graph known) left s (λ l t. within_passes n l t)

  -- Where a run goes on the paths ask for the places that they asked for at its start, but for those that are known.
  pub run_passes : (left : Option ℕ) (s : Search) → Passes s (run graph known left s)
  unfolding run
  run_passes left s = within_passes (suc (length graph)) left s
