-- A core goes on from the state that it has consumed to: the run on the longer table is the one so far, followed by the
-- run from there, also with a leg.
use Rattle.std.proofs.Common.{◌≡◌, ℕ, zero, suc, ◌-◌, ◌<◌, true, List, [], ◌∷◌, length, map, Option, Some, None, refl, sym, subst, ap, ◌∙◌, arith}
use Rattle.std.specs.Option.{IfSome}
use Rattle.bf_graph.specs.Graph.{IsGraph}
use Rattle.bf_search.specs.declared.asks.Ask.{Ask}
use Rattle.bf_search.specs.declared.asks.Ask.TheVariants.{WaitBoth, WaitBad, WaitGood, Test, MergeBaseBad, GoodNotAncestor, BothSides, FirstBad, OnlySkipped}
use Rattle.bf_search.specs.declared.entries.Entry.TheVariants.{Marked, SkippedBase}
use Rattle.bf_search.specs.declared.outcomes.Outcome.{Outcome}
use Rattle.bf_search.specs.declared.outcomes.Mark.{Mark}
use Rattle.bf_search.specs.declared.outcomes.Verdict.{Verdict}
use Rattle.bf_search.specs.declared.outcomes.Verdict.TheVariants.{Mark as MarkOf, Abort}
use Rattle.bf_search.specs.Outcomes.{Outcomes, verdict_of}
use Rattle.bf_search.specs.State.{Search, Asked, IsSearchOver, ask, mark}
use Rattle.bf_search.specs.Run.{Run, with_entries, with_used, marked_one, left_after, after_verdict, after_look, after_step, after_ask, turn, run_within, run}
use Rattle.bf_search.specs.LeftToAsk.{left_to_ask}
use Rattle.bf_search.proofs.Turns.{left_to_ask-falls, left_to_ask-le, IsSearchOver-marked, run-is}
use Rattle.bf_state.specs.Ends.{IsUnspent}
use Rattle.bf_state.specs.Runs.{IsPartOf, is_open, in_sequence}
use Rattle.bf_state.proofs.Asks.{ask_leaves, decision_within}
use Rattle.bf_state.proofs.AskAgain.{ask_again}
use Rattle.bf_state.proofs.Tables.{sequence_entries, over_asked}

abbrev Go : Type 0
Go = Option ℕ → Search → Run

left_after-none : (left : Option ℕ) → left_after left 0 ≡ left
left_after-none None = refl
left_after-none (Some k) = let e : k - 0 ≡ k = omega arith in ap (λ n. Some n) e

left_after-one : (left : Option ℕ) (n : ℕ) → left_after left (suc n) ≡ left_after (marked_one left) n
left_after-one None n = refl
left_after-one (Some k) n = let e : k - suc n ≡ k - 1 - n = omega arith in ap (λ m. Some m) e

module _ (graph : List (List ℕ)) (known more : Outcomes) (g : IsGraph graph) (part : IsPartOf known more) where
  -- the run goes on after that one
  abbrev Follows : Option ℕ → Run → Search → Type 0
  Follows left first s = is_open first.end ≡ true
      → run graph more left s ≡ in_sequence first (run graph more (left_after left (length first.used)) first.search)

  abbrev StepFollows : Option ℕ → Run → Run → Type 0
  StepFollows left first whole = is_open first.end ≡ true → whole ≡ in_sequence first (run graph more (left_after left (length first.used)) first.search)

  turn-is : (left : Option ℕ) (s : Search) → IsUnspent left → turn graph more (run graph more) left s ≡ after_ask more (run graph more) left (ask graph s)
  turn-is None s h = refl
  turn-is (Some zero) s h = absurd h
  turn-is (Some (suc k)) s h = refl

  -- from the state that was asked the run goes on with the same ask
  from_asked : (left : Option ℕ) (s : Search) (p : ℕ) → IsUnspent left → IsSearchOver graph s → (ask graph s).step.ask ≡ Test p
      → run graph more left (ask graph s).search ≡ after_look more (run graph more) left (ask graph s).search p (more p)
  from_asked left s p on over h =
      run-is graph more left (ask graph s).search g (over_asked graph known more g part s p over h)
      ∙ turn-is left (ask graph s).search on
      ∙ ap (λ (a : Asked). after_ask more (run graph more) left a) (ask_again graph s)
      ∙ ap (λ (a : Ask). after_step more (run graph more) left (ask graph s).search a) h

  verdict_follows : (go : Go) (left : Option ℕ) (t : Search) (p : ℕ) (outcome : Outcome) (v : Verdict)
      → ((m : Mark) → Follows (marked_one left) (go (marked_one left) (mark t m p)) (mark t m p))
      → StepFollows left (with_used p outcome (after_verdict go left t p outcome v)) (with_used p outcome (after_verdict (run graph more) left t p outcome v))
  verdict_follows go left t p outcome Abort h = λ e. cc
  verdict_follows go left t p outcome (MarkOf m) h = λ e.
      ap (λ (r : Run). with_used p outcome (with_entries (Marked m p ∷ []) r)) (h m e)
      ∙ ap (λ (l : Option ℕ). in_sequence (with_used p outcome (with_entries (Marked m p ∷ []) (go (marked_one left) (mark t m p))))
      (run graph more l (go (marked_one left) (mark t m p)).search))
      (sym (left_after-one left (length (go (marked_one left) (mark t m p)).used)))

  look_follows : (go : Go) (left : Option ℕ) (s : Search) (p : ℕ) (o : Option Outcome) → IsUnspent left → IsSearchOver graph s → (ask graph s).step.ask ≡ Test p
      → IfSome o (λ outcome. more p ≡ Some outcome)
      → ((m : Mark) → Follows (marked_one left) (go (marked_one left) (mark (ask graph s).search m p)) (mark (ask graph s).search m p))
      → StepFollows left (after_look known go left (ask graph s).search p o) (after_look more (run graph more) left (ask graph s).search p (more p))
  look_follows go left s p None on over asks told h = λ e. sym
      (ap (λ (l : Option ℕ). run graph more l (ask graph s).search) (left_after-none left) ∙ from_asked left s p on over asks)
  look_follows go left s p (Some outcome) on over asks told h = λ e.
      ap (λ (x : Option Outcome). after_look more (run graph more) left (ask graph s).search p x) told
      ∙ verdict_follows go left (ask graph s).search p outcome (verdict_of outcome) h e

  step_follows : (go : Go) (left : Option ℕ) (s : Search) (a : Ask) → IsUnspent left → IsSearchOver graph s → (ask graph s).step.ask ≡ a
      → ((p : ℕ) (m : Mark) → (ask graph s).step.ask ≡ Test p
      → Follows (marked_one left) (go (marked_one left) (mark (ask graph s).search m p)) (mark (ask graph s).search m p))
      → StepFollows left (after_step known go left (ask graph s).search a) (after_step more (run graph more) left (ask graph s).search a)
  step_follows go left s (Test p) on over asks h = look_follows go left s p (known p) on over asks (part p) (λ m. h p m asks)
  step_follows go left s (FirstBad p) on over asks h = λ e. cc
  step_follows go left s (OnlySkipped ps) on over asks h = λ e. cc
  step_follows go left s WaitBoth on over asks h = λ e. cc
  step_follows go left s WaitBad on over asks h = λ e. cc
  step_follows go left s WaitGood on over asks h = λ e. cc
  step_follows go left s (MergeBaseBad p) on over asks h = λ e. cc
  step_follows go left s (GoodNotAncestor p) on over asks h = λ e. cc
  step_follows go left s (BothSides p) on over asks h = λ e. cc

  ask_follows : (go : Go) (left : Option ℕ) (s : Search) → IsUnspent left → IsSearchOver graph s
      → ((p : ℕ) (m : Mark) → (ask graph s).step.ask ≡ Test p
      → Follows (marked_one left) (go (marked_one left) (mark (ask graph s).search m p)) (mark (ask graph s).search m p))
      → Follows left (after_ask known go left (ask graph s)) s
  ask_follows go left s on over h = λ e.
      run-is graph more left s g over
      ∙ turn-is left s on
      ∙ ap (λ (r : Run). with_entries (map (λ p. SkippedBase p) (ask graph s).step.warned) r) (step_follows go left s (ask graph s).step.ask on over refl h e)
      ∙ sym (sequence_entries (map (λ p. SkippedBase p) (ask graph s).step.warned) (after_step known go left (ask graph s).search (ask graph s).step.ask)
      (run graph more (left_after left (length (after_step known go left (ask graph s).search (ask graph s).step.ask).used))
      (after_step known go left (ask graph s).search (ask graph s).step.ask).search))

  turn_follows : (go : Go) (left : Option ℕ) (s : Search) → IsSearchOver graph s
      → ((p : ℕ) (m : Mark) → (ask graph s).step.ask ≡ Test p
      → Follows (marked_one left) (go (marked_one left) (mark (ask graph s).search m p)) (mark (ask graph s).search m p))
      → Follows left (turn graph known go left s) s
  turn_follows go (Some zero) s over h = λ e. cc
  turn_follows go (Some (suc k)) s over h = ask_follows go (Some (suc k)) s tt over h
  turn_follows go None s over h = ask_follows go None s tt over h

  within_follows : (n : ℕ) (left : Option ℕ) (s : Search) → IsSearchOver graph s → left_to_ask graph s < n → Follows left (run_within n graph known left s) s
  unfolding run_within
  within_follows zero left s over few = absurd (omega arith)
  within_follows (suc n) left s over few =
      turn_follows (run_within n graph known) left s over
      (λ p m h. within_follows n (marked_one left) (mark (ask graph s).search m p) (IsSearchOver-marked graph s m p g over h)
      (omega (arith, left_to_ask-falls graph s m p g over h)))

  pub run_follows : (left : Option ℕ) (s : Search) → IsSearchOver graph s → Follows left (run graph known left s) s
  unfolding run
  run_follows left s over = within_follows (suc (length graph)) left s over (omega (arith, left_to_ask-le graph s))

-- ---- a core consumes from a search that has asked

turn_asks : (graph : List (List ℕ)) (known : Outcomes) (go : Go) (left : Option ℕ) (s : Search) → IsUnspent left
    → turn graph known go left s ≡ after_ask known go left (ask graph s)
turn_asks graph known go None s h = refl
turn_asks graph known go (Some zero) s h = absurd h
turn_asks graph known go (Some (suc k)) s h = refl

-- A run warns once, and goes on from the search that has asked: no warning is lost or comes twice.
pub run_asked : (graph : List (List ℕ)) (known : Outcomes) (left : Option ℕ) (s : Search) → IsGraph graph → IsSearchOver graph s
    → IsSearchOver graph (ask graph s).search → IsUnspent left
    → run graph known left s ≡ with_entries (map (λ p. SkippedBase p) (ask graph s).step.warned) (run graph known left (ask graph s).search)
run_asked graph known left s g over asked unspent =
    run-is graph known left s g over
    ∙ turn_asks graph known (run graph known) left s unspent
    ∙ sym (ap (λ (r : Run). with_entries (map (λ p. SkippedBase p) (ask graph s).step.warned) r)
    (run-is graph known left (ask graph s).search g asked ∙ turn_asks graph known (run graph known) left (ask graph s).search unspent ∙ ap
    (λ (a : Asked). after_ask known (run graph known) left a) (ask_again graph s)))

-- the places of a search that has asked are places of the graph
pub asked_over : (graph : List (List ℕ)) (s : Search) → IsGraph graph → IsSearchOver graph s → IsSearchOver graph (ask graph s).search
asked_over graph s g over =
    subst (λ (t : Search). IsSearchOver graph t) (sym (ask_leaves graph s)) (record {
      bad = over.bad;
      goods = over.goods;
      skips = over.skips;
      expected = decision_within graph s (ask graph s).search.checked (ask graph s).step g (record { checked = refl; step = refl });
    })
