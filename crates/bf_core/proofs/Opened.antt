-- The best open path asks for a place of the graph that has neither outcome nor claim.
use Rattle.std.proofs.Common.{◌≡◌, ℕ, zero, suc, ◌<◌, Bool, true, false, List, length, Option, Some, None, refl, ⊎_elim, subst, sym}
use Rattle.std.proofs.lemmas.Bool.{cases_Bool, cond-true, cond-false}
use Rattle.std.specs.Option.{IfSome}
use Rattle.bf_graph.specs.Graph.{IsGraph}
use Rattle.bf_search.specs.declared.asks.Ask.{Ask}
use Rattle.bf_search.specs.declared.asks.Ask.TheVariants.{WaitBoth, WaitBad, WaitGood, Test, MergeBaseBad, GoodNotAncestor, BothSides, FirstBad, OnlySkipped}
use Rattle.bf_search.specs.declared.outcomes.Mark.{Mark}
use Rattle.bf_search.specs.declared.outcomes.Mark.TheVariants.{Good, Bad}
use Rattle.bf_search.specs.declared.outcomes.Outcome.{Outcome}
use Rattle.bf_search.specs.declared.outcomes.Verdict.{Verdict}
use Rattle.bf_search.specs.declared.outcomes.Verdict.TheVariants.{Mark as MarkOf, Abort}
use Rattle.bf_search.specs.Outcomes.{Outcomes, verdict_of}
use Rattle.bf_search.specs.State.{Search, ask, mark}
use Rattle.bf_search.proofs.Turns.{asking}
use Rattle.bf_search.specs.declared.farm.Claim.{Claim}
use Rattle.bf_search.specs.OpenPaths.{OpenPath, is_claimed, is_better, better, followed_by, after_verdict, after_claim, after_look, after_step, best_within}
use Rattle.bf_search.specs.OpenPaths.{best_open, place_of}
use Rattle.bf_core.specs.Claims.{IsFree}

module _ (graph : List (List ℕ)) (known : Outcomes) (claims : List Claim) (g : IsGraph graph) where
  abbrev AsksFree : Option OpenPath → Type 0
  AsksFree o = IfSome o (λ path. IsFree (length graph) known claims path.place)

  free_followed : (m : Mark) (o : Option OpenPath) → AsksFree o → AsksFree (followed_by m o)
  free_followed m None h = tt
  free_followed m (Some path) h = h

  free_better : (a b : Option OpenPath) → AsksFree a → AsksFree b → AsksFree (better a b)
  free_better None b h k = k
  free_better (Some a) None h k = h
  free_better (Some a) (Some b) h k =
      ⊎_elim
      (λ yes. subst AsksFree (sym (cond-true (is_better b a) (Some b) (Some a) yes)) k)
      (λ fails. subst AsksFree (sym (cond-false (is_better b a) (Some b) (Some a) fails)) h)
      (cases_Bool (is_better b a))

  free_verdict : (go : Search → Option OpenPath) (s : Search) (p : ℕ) (v : Verdict) → ((t : Search) → AsksFree (go t)) → AsksFree (after_verdict go s p v)
  free_verdict go s p Abort h = tt
  free_verdict go s p (MarkOf m) h = free_followed m (go (mark s m p)) (h (mark s m p))

  free_claim : (go : Search → Option OpenPath) (s : Search) (p : ℕ) (b : Bool) → p < length graph → known p ≡ None → is_claimed claims p ≡ b
      → ((t : Search) → AsksFree (go t)) → AsksFree (after_claim graph go s p b)
  free_claim go s p false within unknown is h = record { within = within; unknown = unknown; unclaimed = is }
  free_claim go s p true within unknown is h =
      free_better (followed_by Good (go (mark s Good p))) (followed_by Bad (go (mark s Bad p)))
      (free_followed Good (go (mark s Good p)) (h (mark s Good p))) (free_followed Bad (go (mark s Bad p)) (h (mark s Bad p)))

  free_look : (go : Search → Option OpenPath) (s : Search) (p : ℕ) (o : Option Outcome) → p < length graph → known p ≡ o → ((t : Search) → AsksFree (go t))
      → AsksFree (after_look graph claims go s p o)
  free_look go s p None within is h = free_claim go s p (is_claimed claims p) within is refl h
  free_look go s p (Some outcome) within is h = free_verdict go s p (verdict_of outcome) h

  free_step : (go : Search → Option OpenPath) (s : Search) (a : Ask) → ((p : ℕ) → a ≡ Test p → p < length graph) → ((t : Search) → AsksFree (go t))
      → AsksFree (after_step graph known claims go s a)
  free_step go s (Test p) within h = free_look go s p (known p) (within p refl) refl h
  free_step go s (FirstBad p) within h = tt
  free_step go s (OnlySkipped ps) within h = tt
  free_step go s WaitBoth within h = tt
  free_step go s WaitBad within h = tt
  free_step go s WaitGood within h = tt
  free_step go s (MergeBaseBad p) within h = tt
  free_step go s (GoodNotAncestor p) within h = tt
  free_step go s (BothSides p) within h = tt

  free_within : (n : ℕ) (s : Search) → AsksFree (best_within n graph known claims s)
  unfolding best_within
  free_within zero s = tt
  free_within (suc n) s =
      free_step (best_within n graph known claims) (ask graph s).search (ask graph s).step.ask (λ p e. (asking graph s p g e).asks_for.within)
      (λ t. free_within n t)

  free_open : (s : Search) → AsksFree (best_open graph known claims s)
  unfolding best_open
  free_open s = free_within (suc (length graph)) s

  free_place : (o : Option OpenPath) (p : ℕ) → AsksFree o → place_of o ≡ Some p → IsFree (length graph) known claims p
  free_place None p h e = cc
  free_place (Some path) p h e = let same : path.place ≡ p = cc in subst (λ (q : ℕ). IsFree (length graph) known claims q) same h

  -- The place of the best open path is free.
  pub best_is_free : (s : Search) (p : ℕ) → place_of (best_open graph known claims s) ≡ Some p → IsFree (length graph) known claims p
  best_is_free s p e = free_place (best_open graph known claims s) p (free_open s) e
