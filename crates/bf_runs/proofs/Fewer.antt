-- A leg that ended after its marks leaves fewer places to ask.
use Rattle.std.proofs.Common.{◌≡◌, ℕ, zero, suc, ◌<◌, ◌≤◌, List, [], ◌∷◌, length, Option, Some, None, refl, ap, arith}
use Rattle.bf_graph.specs.Graph.{IsGraph}
use Rattle.bf_search.specs.declared.asks.Ask.{Ask}
use Rattle.bf_search.specs.declared.asks.Ask.TheVariants.{WaitBoth, WaitBad, WaitGood, Test, MergeBaseBad, GoodNotAncestor, BothSides, FirstBad, OnlySkipped}
use Rattle.bf_search.specs.declared.entries.Entry.{Entry}
use Rattle.bf_search.specs.declared.entries.Entry.TheVariants.{FirstBadFound, OnlySkippedLeft}
use Rattle.bf_search.specs.declared.outcomes.Mark.{Mark}
use Rattle.bf_search.specs.declared.outcomes.Outcome.{Outcome}
use Rattle.bf_search.specs.declared.outcomes.Verdict.{Verdict}
use Rattle.bf_search.specs.declared.outcomes.Verdict.TheVariants.{Mark as MarkOf, Abort}
use Rattle.bf_search.specs.LeftToAsk.{left_to_ask}
use Rattle.bf_search.specs.Outcomes.{Outcomes, verdict_of}
use Rattle.bf_search.specs.Run.{End, Answered, Leg, Open, Run, ended, with_used, marked_one, after_verdict, after_look, after_step, after_ask, turn, run_within}
use Rattle.bf_search.specs.Run.{run, one_at_a_time}
use Rattle.bf_search.specs.State.{Search, IsSearchOver, ask, mark}
use Rattle.bf_search.proofs.Turns.{left_to_ask-falls, left_to_ask-le, IsSearchOver-marked}
use Rattle.bf_state.proofs.Asks.{ask_leaves}

abbrev Go : Type 0
Go = Option ℕ → Search → Run

module _ (graph : List (List ℕ)) (known : Outcomes) (g : IsGraph graph) where
  -- a run leaves no more places to ask than there were, and fewer where it made the marks of a leg
  record Leaves (left : Option ℕ) (s : Search) (r : Run) : Type 0 where
    no_more : left_to_ask graph r.search ≤ left_to_ask graph s
    fewer : r.end ≡ Leg → (left ≡ Some 0 → ⊥) → left_to_ask graph r.search < left_to_ask graph s

  -- an ask makes no mark
  same_left : (s : Search) → left_to_ask graph (ask graph s).search ≡ left_to_ask graph s
  same_left s = ap (λ (t : Search). left_to_ask graph t) (ask_leaves graph s)

  ended_leaves : (left : Option ℕ) (s : Search) (es : List Entry) (e : End) → (e ≡ Leg → ⊥) → Leaves left s (ended es (ask graph s).search e)
  ended_leaves left s es e apart = record { no_more = omega (arith, same_left s); fewer = λ h on. absurd (apart h) }

  abbrev Marked : Go → Option ℕ → Search → ℕ → Type 0
  Marked go left s p =
      (m : Mark) → Leaves (marked_one left) (mark (ask graph s).search m p) (go (marked_one left) (mark (ask graph s).search m p))

  by_verdict : (go : Go) (left : Option ℕ) (s : Search) (p : ℕ) (outcome : Outcome) (v : Verdict) → IsSearchOver graph s → (ask graph s).step.ask ≡ Test p
      → Marked go left s p → Leaves left s (with_used p outcome (after_verdict go left (ask graph s).search p outcome v))
  by_verdict go left s p outcome Abort over asks h = record { no_more = omega (arith, same_left s); fewer = λ e on. cc }
  by_verdict go left s p outcome (MarkOf m) over asks h =
      let falls : left_to_ask graph (mark (ask graph s).search m p) < left_to_ask graph s = left_to_ask-falls graph s m p g over asks in
      let rest = (h m).no_more in
      record { no_more = omega arith; fewer = λ e on. omega arith }

  by_look : (go : Go) (left : Option ℕ) (s : Search) (p : ℕ) (o : Option Outcome) → IsSearchOver graph s → (ask graph s).step.ask ≡ Test p
      → Marked go left s p → Leaves left s (after_look known go left (ask graph s).search p o)
  by_look go left s p None over asks h = ended_leaves left s [] (Open p) (λ e. cc)
  by_look go left s p (Some outcome) over asks h = by_verdict go left s p outcome (verdict_of outcome) over asks h

  by_step : (go : Go) (left : Option ℕ) (s : Search) (a : Ask) → IsSearchOver graph s → (ask graph s).step.ask ≡ a
      → ((p : ℕ) → (ask graph s).step.ask ≡ Test p → Marked go left s p) → Leaves left s (after_step known go left (ask graph s).search a)
  by_step go left s (Test p) over asks h = by_look go left s p (known p) over asks (h p asks)
  by_step go left s (FirstBad p) over asks h = ended_leaves left s (FirstBadFound p ∷ []) (Answered (FirstBad p)) (λ e. cc)
  by_step go left s (OnlySkipped ps) over asks h = ended_leaves left s (OnlySkippedLeft ps ∷ []) (Answered (OnlySkipped ps)) (λ e. cc)
  by_step go left s (MergeBaseBad p) over asks h = ended_leaves left s [] (Answered (MergeBaseBad p)) (λ e. cc)
  by_step go left s (GoodNotAncestor p) over asks h = ended_leaves left s [] (Answered (GoodNotAncestor p)) (λ e. cc)
  by_step go left s (BothSides p) over asks h = ended_leaves left s [] (Answered (BothSides p)) (λ e. cc)
  by_step go left s WaitBoth over asks h = ended_leaves left s [] (Answered WaitBoth) (λ e. cc)
  by_step go left s WaitBad over asks h = ended_leaves left s [] (Answered WaitBad) (λ e. cc)
  by_step go left s WaitGood over asks h = ended_leaves left s [] (Answered WaitGood) (λ e. cc)

  by_ask : (go : Go) (left : Option ℕ) (s : Search) → IsSearchOver graph s
      → ((p : ℕ) → (ask graph s).step.ask ≡ Test p → Marked go left s p) → Leaves left s (after_ask known go left (ask graph s))
  by_ask go left s over h =
      let rest = by_step go left s (ask graph s).step.ask over refl h in
      record { no_more = rest.no_more; fewer = rest.fewer }

  by_turn : (go : Go) (left : Option ℕ) (s : Search) → IsSearchOver graph s
      → ((p : ℕ) → (ask graph s).step.ask ≡ Test p → Marked go left s p) → Leaves left s (turn graph known go left s)
  by_turn go (Some zero) s over h = record { no_more = omega arith; fewer = λ e on. absurd (on refl) }
  by_turn go (Some (suc k)) s over h = by_ask go (Some (suc k)) s over h
  by_turn go None s over h = by_ask go None s over h

  within : (n : ℕ) (left : Option ℕ) (s : Search) → IsSearchOver graph s → left_to_ask graph s < n → Leaves left s (run_within n graph known left s)
  unfolding run_within
  within zero left s over few = absurd (omega arith)
  within (suc n) left s over few =
      by_turn (run_within n graph known) left s over
      (λ p asks m. within n (marked_one left) (mark (ask graph s).search m p) (IsSearchOver-marked graph s m p g over asks)
      (omega (arith, left_to_ask-falls graph s m p g over asks)))

  leaves : (left : Option ℕ) (s : Search) → IsSearchOver graph s → Leaves left s (run graph known left s)
  unfolding run
  leaves left s over = within (suc (length graph)) left s over (omega (arith, left_to_ask-le graph s))

  pub leg_leaves_fewer : (s : Search) (k : ℕ) → IsSearchOver graph s → (one_at_a_time graph s known k).end ≡ Leg
      → left_to_ask graph (one_at_a_time graph s known k).search < left_to_ask graph s
  leg_leaves_fewer s zero over e = (leaves None s over).fewer e (λ n. cc)
  leg_leaves_fewer s (suc k) over e = (leaves (Some (suc k)) s over).fewer e (λ n. let f : suc k ≡ 0 = some_is n in absurd (omega arith))
    where
      some_is : {x y : ℕ} → Some x ≡ Some y → x ≡ y
      some_is n = cc
