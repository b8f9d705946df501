-- A run that knows no outcome uses none, and ends in the same way whatever its legs are.
use Rattle.std.proofs.Common.{◌≡◌, ◌≢◌, ℕ, zero, suc, List, [], length, Option, Some, None, refl, sym, ap, ◌∙◌}
use Rattle.bf_search.specs.declared.asks.Ask.{Ask}
use Rattle.bf_search.specs.declared.asks.Ask.TheVariants.{WaitBoth, WaitBad, WaitGood, Test, MergeBaseBad, GoodNotAncestor, BothSides, FirstBad, OnlySkipped}
use Rattle.bf_search.specs.declared.outcomes.Outcome.{Outcome}
use Rattle.bf_search.specs.Outcomes.{Outcomes}
use Rattle.bf_search.specs.Run.{Leg, Run, after_look, after_step, turn, run_within, run, one_at_a_time}
use Rattle.bf_search.specs.State.{Search, ask}

module _ (graph : List (List ℕ)) (known : Outcomes) (none : (p : ℕ) → known p ≡ None) where
  by_step : (go : Option ℕ → Search → Run) (left : Option ℕ) (s : Search) (a : Ask) → (after_step known go left s a).used ≡ []
  by_step go left s (Test p) = ap (λ (o : Option Outcome). (after_look known go left s p o).used) (none p)
  by_step go left s (FirstBad p) = refl
  by_step go left s (OnlySkipped ps) = refl
  by_step go left s (MergeBaseBad p) = refl
  by_step go left s (GoodNotAncestor p) = refl
  by_step go left s (BothSides p) = refl
  by_step go left s WaitBoth = refl
  by_step go left s WaitBad = refl
  by_step go left s WaitGood = refl

  by_left : (go : Option ℕ → Search → Run) (left : Option ℕ) (s : Search) → (turn graph known go left s).used ≡ []
  by_left go (Some zero) s = refl
  by_left go (Some (suc k)) s = by_step go (Some (suc k)) (ask graph s).search (ask graph s).step.ask
  by_left go None s = by_step go None (ask graph s).search (ask graph s).step.ask

  by_turns : (turns : ℕ) (left : Option ℕ) (s : Search) → (run_within turns graph known left s).used ≡ []
  unfolding run_within
  by_turns zero left s = refl
  by_turns (suc turns) left s = by_left (run_within turns graph known) left s

  pub none_used : (s : Search) (k : ℕ) → (one_at_a_time graph s known k).used ≡ []
  unfolding run
  none_used s k = by_turns _ _ s

  end_by_step : (go : Option ℕ → Search → Run) (left other : Option ℕ) (s : Search) (a : Ask)
      → (after_step known go left s a).end ≡ (after_step known go other s a).end
  end_by_step go left other s (Test p) =
      ap (λ (o : Option Outcome). (after_look known go left s p o).end) (none p)
      ∙ sym (ap (λ (o : Option Outcome). (after_look known go other s p o).end) (none p))
  end_by_step go left other s (FirstBad p) = refl
  end_by_step go left other s (OnlySkipped ps) = refl
  end_by_step go left other s (MergeBaseBad p) = refl
  end_by_step go left other s (GoodNotAncestor p) = refl
  end_by_step go left other s (BothSides p) = refl
  end_by_step go left other s WaitBoth = refl
  end_by_step go left other s WaitBad = refl
  end_by_step go left other s WaitGood = refl

  end_in_turns : (turns k : ℕ) (s : Search) → (run_within (suc turns) graph known (Some (suc k)) s).end ≡ (run_within (suc turns) graph known None s).end
  unfolding run_within
  end_in_turns turns k s = end_by_step (run_within turns graph known) (Some (suc k)) None (ask graph s).search (ask graph s).step.ask

  pub same_end : (s : Search) (k : ℕ) → (one_at_a_time graph s known k).end ≡ (one_at_a_time graph s known 0).end
  unfolding run
  same_end s zero = refl
  same_end s (suc k) = end_in_turns (length graph) k s

  end_is_no_leg : (go : Option ℕ → Search → Run) (left : Option ℕ) (s : Search) (a : Ask) → (after_step known go left s a).end ≢ Leg
  end_is_no_leg go left s (Test p) = λ e. cc (sym (ap (λ (o : Option Outcome). (after_look known go left s p o).end) (none p)) ∙ e)
  end_is_no_leg go left s (FirstBad p) = λ e. cc
  end_is_no_leg go left s (OnlySkipped ps) = λ e. cc
  end_is_no_leg go left s (MergeBaseBad p) = λ e. cc
  end_is_no_leg go left s (GoodNotAncestor p) = λ e. cc
  end_is_no_leg go left s (BothSides p) = λ e. cc
  end_is_no_leg go left s WaitBoth = λ e. cc
  end_is_no_leg go left s WaitBad = λ e. cc
  end_is_no_leg go left s WaitGood = λ e. cc

  -- it makes no mark, and so it does not end with its leg
  pub no_leg : (s : Search) (k : ℕ) → (one_at_a_time graph s known k).end ≢ Leg
  unfolding run_within run
  no_leg s zero = end_is_no_leg (run_within (length graph) graph known) None (ask graph s).search (ask graph s).step.ask
  no_leg s (suc k) = end_is_no_leg (run_within (length graph) graph known) (Some (suc k)) (ask graph s).search (ask graph s).step.ask
