-- With the outcome that it waits for a run uses it next.
use Rattle.std.proofs.Common.{◌≡◌, ℕ, zero, suc, List, ◌∷◌, ◌++◌, length, Option, Some, None, ap, ◌∙◌}
use Rattle.std.specs.Option.{IfSome}
use Rattle.bf_search.specs.declared.asks.Ask.{Ask}
use Rattle.bf_search.specs.declared.asks.Ask.TheVariants.{WaitBoth, WaitBad, WaitGood, Test, MergeBaseBad, GoodNotAncestor, BothSides, FirstBad, OnlySkipped}
use Rattle.bf_search.specs.declared.outcomes.Outcome.{Outcome}
use Rattle.bf_search.specs.declared.outcomes.Verdict.{Verdict}
use Rattle.bf_search.specs.declared.outcomes.Verdict.TheVariants.{Mark as MarkOf, Abort}
use Rattle.bf_search.specs.Outcomes.{Outcomes, verdict_of}
use Rattle.bf_search.specs.State.{Search, ask, mark}
use Rattle.bf_search.specs.Run.{Run, Open, marked_one, after_verdict, after_look, after_step, turn, run_within, run}
use Rattle.bf_state.specs.Runs.{IsPartOf}

abbrev Go : Type 0
Go = Option ℕ → Search → Run

module _ (known more : Outcomes) (part : IsPartOf known more) (p : ℕ) (outcome : Outcome) (tells : more p ≡ Some outcome) where
  -- the other run uses the same, then this outcome
  abbrev Goes : Run → Run → Type 0
  Goes first other = first.end ≡ Open p → (rest : List (ℕ × Outcome)) × (other.used ≡ first.used ++ (p, outcome) ∷ rest)

  goes_verdict : (go other : Go) (left : Option ℕ) (t : Search) (q : ℕ) (o : Outcome) (v : Verdict) → ((l : Option ℕ) (u : Search) → Goes (go l u) (other l u))
      → Goes (after_verdict go left t q o v) (after_verdict other left t q o v)
  goes_verdict go other left t q o Abort h = λ e. cc
  goes_verdict go other left t q o (MarkOf m) h = λ e. h (marked_one left) (mark t m q) e

  goes_look : (go other : Go) (left : Option ℕ) (t : Search) (q : ℕ) (o : Option Outcome) → IfSome o (λ x. more q ≡ Some x)
      → ((l : Option ℕ) (u : Search) → Goes (go l u) (other l u)) → Goes (after_look known go left t q o) (after_look more other left t q (more q))
  goes_look go other left t q None told h = λ e.
      let same : q ≡ p = cc in (
        (after_verdict other left t p outcome (verdict_of outcome)).used,
        ap (λ (x : ℕ). (after_look more other left t x (more x)).used) same ∙ ap (λ (x : Option Outcome). (after_look more other left t p x).used) tells,
      )
  goes_look go other left t q (Some o) told h = λ e.
      let rest = goes_verdict go other left t q o (verdict_of o) h e in
      (rest.0, ap (λ (x : Option Outcome). (after_look more other left t q x).used) told ∙ ap (λ (l : List (ℕ × Outcome)). (q, o) ∷ l) rest.1)

  goes_step : (go other : Go) (left : Option ℕ) (t : Search) (a : Ask) → ((l : Option ℕ) (u : Search) → Goes (go l u) (other l u))
      → Goes (after_step known go left t a) (after_step more other left t a)
  goes_step go other left t (Test q) h = goes_look go other left t q (known q) (part q) h
  goes_step go other left t (FirstBad q) h = λ e. cc
  goes_step go other left t (OnlySkipped qs) h = λ e. cc
  goes_step go other left t WaitBoth h = λ e. cc
  goes_step go other left t WaitBad h = λ e. cc
  goes_step go other left t WaitGood h = λ e. cc
  goes_step go other left t (MergeBaseBad q) h = λ e. cc
  goes_step go other left t (GoodNotAncestor q) h = λ e. cc
  goes_step go other left t (BothSides q) h = λ e. cc

  goes_turn : (graph : List (List ℕ)) (go other : Go) (left : Option ℕ) (s : Search) → ((l : Option ℕ) (u : Search) → Goes (go l u) (other l u))
      → Goes (turn graph known go left s) (turn graph more other left s)
  goes_turn graph go other (Some zero) s h = λ e. cc
  goes_turn graph go other (Some (suc k)) s h = goes_step go other (Some (suc k)) (ask graph s).search (ask graph s).step.ask h
  goes_turn graph go other None s h = goes_step go other None (ask graph s).search (ask graph s).step.ask h

  goes_within : (n : ℕ) (graph : List (List ℕ)) (left : Option ℕ) (s : Search) → Goes (run_within n graph known left s) (run_within n graph more left s)
  unfolding run_within
  goes_within zero graph left s = λ e. cc
  goes_within (suc n) graph left s = goes_turn graph (run_within n graph known) (run_within n graph more) left s (λ l u. goes_within n graph l u)

  pub run_goes_on : (graph : List (List ℕ)) (left : Option ℕ) (s : Search) → Goes (run graph known left s) (run graph more left s)
  unfolding run
  run_goes_on graph left s = goes_within (suc (length graph)) graph left s
