-- Runs without legs: each comes to its end, and one that ends with the first bad commit has found it.
use Rattle.std.proofs.Common.{◌≡◌, ◌≢◌, ℕ, zero, suc, ◌<◌, List, length, Option, Some, None, refl, arith}
use Rattle.bf_cert.specs.Made.{AsksFirstBad}
use Rattle.bf_cert.proofs.Making.{asks_again}
use Rattle.bf_graph.specs.Graph.{IsGraph}
use Rattle.bf_state.proofs.Causes.{leg_ends}
use Rattle.bf_search.specs.declared.asks.Ask.{Ask}
use Rattle.bf_search.specs.declared.asks.Ask.TheVariants.{WaitBoth, WaitBad, WaitGood, Test, MergeBaseBad, GoodNotAncestor, BothSides, FirstBad, OnlySkipped}
use Rattle.bf_search.specs.declared.outcomes.Outcome.{Outcome}
use Rattle.bf_search.specs.declared.outcomes.Verdict.{Verdict}
use Rattle.bf_search.specs.declared.outcomes.Verdict.TheVariants.{Mark, Abort}
use Rattle.bf_search.specs.Outcomes.{Outcomes, verdict_of}
use Rattle.bf_search.specs.Run.{Answered, Leg, Run, after_look, after_step, after_verdict, leg_of, marked_one, one_at_a_time, run, run_within, with_used}
use Rattle.bf_search.specs.State.{Search, IsSearchOver, ask, mark}

-- a run without legs does not end with one
pub no_leg : (graph : List (List ℕ)) (known : Outcomes) (s : Search) (leg : ℕ) → IsGraph graph → IsSearchOver graph s → leg ≡ 0
    → (one_at_a_time graph s known leg).end ≢ Leg
no_leg graph known s leg g over none e =
    let more : 0 < leg = (leg_ends graph known g s leg over e).0 in
    absurd (omega (arith, none))

module _ (graph : List (List ℕ)) (known : Outcomes) (p : ℕ) where
  -- where a run ends with the first bad commit, its search has found it
  abbrev Finds : Run → Type 0
  Finds r = r.end ≡ Answered (FirstBad p) → AsksFirstBad graph r.search

  by_verdict : (go : Option ℕ → Search → Run) (left : Option ℕ) (s : Search) (q : ℕ) (outcome : Outcome) (v : Verdict)
      → ((l : Option ℕ) (t : Search) → Finds (go l t)) → Finds (with_used q outcome (after_verdict go left s q outcome v))
  by_verdict go left s q outcome Abort h = λ e. cc
  by_verdict go left s q outcome (Mark m) h = h (marked_one left) (mark s m q)

  by_look : (go : Option ℕ → Search → Run) (left : Option ℕ) (s : Search) (q : ℕ) (o : Option Outcome)
      → ((l : Option ℕ) (t : Search) → Finds (go l t)) → Finds (after_look known go left s q o)
  by_look go left s q None h = λ e. cc
  by_look go left s q (Some outcome) h = by_verdict go left s q outcome (verdict_of outcome) h

  by_step : (go : Option ℕ → Search → Run) (left : Option ℕ) (s : Search) (a : Ask) → (ask graph s).step.ask ≡ a
      → ((l : Option ℕ) (t : Search) → Finds (go l t)) → Finds (after_step known go left (ask graph s).search a)
  by_step go left s (Test q) is h = by_look go left (ask graph s).search q (known q) h
  by_step go left s (FirstBad q) is h = λ e. asks_again graph s q is
  by_step go left s (OnlySkipped qs) is h = λ e. cc
  by_step go left s WaitBoth is h = λ e. cc
  by_step go left s WaitBad is h = λ e. cc
  by_step go left s WaitGood is h = λ e. cc
  by_step go left s (MergeBaseBad q) is h = λ e. cc
  by_step go left s (GoodNotAncestor q) is h = λ e. cc
  by_step go left s (BothSides q) is h = λ e. cc

  by_turns : (turns : ℕ) (left : Option ℕ) (s : Search) → Finds (run_within turns graph known left s)
  unfolding run_within
  by_turns zero left s = λ e. cc
  by_turns (suc turns) (Some zero) s = λ e. cc
  by_turns (suc turns) (Some (suc k)) s =
      by_step (run_within turns graph known) (Some (suc k)) s (ask graph s).step.ask refl (λ l t. by_turns turns l t)
  by_turns (suc turns) None s =
      by_step (run_within turns graph known) None s (ask graph s).step.ask refl (λ l t. by_turns turns l t)

  pub finds : (s : Search) (leg : ℕ) → Finds (one_at_a_time graph s known leg)
  unfolding run
  finds s leg = by_turns (suc (length graph)) (leg_of leg) s
