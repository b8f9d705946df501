-- One at a time: the whole run of a search that tests one commit after another. It knows nothing of workers.
use Rattle.std.specs.Prelude.{ℕ, zero, suc, ◌-◌, List, [], ◌∷◌, ◌++◌, length, map, Option, Some, None}
use Rattle.bf_search.specs.declared.asks.Ask.{Ask}
use Rattle.bf_search.specs.declared.asks.Ask.TheVariants.{Test, FirstBad, OnlySkipped}
use Rattle.bf_search.specs.declared.entries.Entry.{Entry}
use Rattle.bf_search.specs.declared.entries.Entry.TheVariants.{Marked, SkippedBase, FirstBadFound, OnlySkippedLeft}
use Rattle.bf_search.specs.declared.outcomes.Outcome.{Outcome}
use Rattle.bf_search.specs.declared.outcomes.Verdict.{Verdict}
use Rattle.bf_search.specs.declared.outcomes.Verdict.TheVariants.{Mark, Abort}
use Rattle.bf_search.specs.Outcomes.{Outcomes, verdict_of}
use Rattle.bf_search.specs.State.{Search, Asked, ask, mark}

-- How a run ends: with an ask that asks for no test, at the end of a leg, at a place whose outcome is not known, or
-- by an outcome that aborts.
pub data End : Type 0 where
  Answered : Ask → End
  Leg : End
  Open : ℕ → End
  Aborted : ℕ → Outcome → End

-- a run: its entries, the outcomes that it used with their places, the state that it reached, and its end
pub record Run : Type 0 where
  pub entries : List Entry
  pub used : List (ℕ × Outcome)
  pub search : Search
  pub end : End

abbrev pub ended : List Entry → Search → End → Run
ended entries s end = record { entries = entries; used = []; search = s; end = end }

abbrev pub with_entries : List Entry → Run → Run
with_entries entries run = record run { entries = entries ++ run.entries }

abbrev pub with_used : ℕ → Outcome → Run → Run
with_used p outcome run = record run { used = (p, outcome) ∷ run.used }

-- the marks that are left in a leg of so many marks; a leg of 0 marks never ends
abbrev pub leg_of : ℕ → Option ℕ
leg_of zero = None
leg_of (suc k) = Some (suc k)

abbrev pub marked_one : Option ℕ → Option ℕ
marked_one None = None
marked_one (Some k) = Some (k - 1)

-- the marks that are left after so many more
abbrev pub left_after : Option ℕ → ℕ → Option ℕ
left_after None n = None
left_after (Some k) n = Some (k - n)

-- an abort ends the run; any other verdict is marked, and the run goes on
abbrev pub after_verdict : (Option ℕ → Search → Run) → Option ℕ → Search → ℕ → Outcome → Verdict → Run
after_verdict go left s p outcome Abort = ended [] s (Aborted p outcome)
after_verdict go left s p outcome (Mark m) = with_entries (Marked m p ∷ []) (go (marked_one left) (mark s m p))

abbrev pub after_look : Outcomes → (Option ℕ → Search → Run) → Option ℕ → Search → ℕ → Option Outcome → Run
after_look known go left s p None = ended [] s (Open p)
after_look known go left s p (Some outcome) = with_used p outcome (after_verdict go left s p outcome (verdict_of outcome))

-- a test is looked up among the known outcomes; any other ask ends the run
abbrev pub after_step : Outcomes → (Option ℕ → Search → Run) → Option ℕ → Search → Ask → Run
after_step known go left s (Test p) = after_look known go left s p (known p)
after_step known go left s (FirstBad p) = ended (FirstBadFound p ∷ []) s (Answered (FirstBad p))
after_step known go left s (OnlySkipped ps) = ended (OnlySkippedLeft ps ∷ []) s (Answered (OnlySkipped ps))
after_step known go left s other = ended [] s (Answered other)

-- an entry for each skipped merge base that an ask passes over
abbrev pub warnings : List ℕ → List Entry
warnings warned = map (λ p. SkippedBase p) warned

abbrev pub after_ask : Outcomes → (Option ℕ → Search → Run) → Option ℕ → Asked → Run
after_ask known go left asked = with_entries (warnings asked.step.warned) (after_step known go left asked.search asked.step.ask)

-- One turn: where the leg is over the run ends. Otherwise the search asks, and warns of the skipped bases.
abbrev pub turn : List (List ℕ) → Outcomes → (Option ℕ → Search → Run) → Option ℕ → Search → Run
turn graph known go (Some zero) s = ended [] s Leg
turn graph known go left s = after_ask known go left (ask graph s)

-- a run of at most so many turns
unfoldable pub run_within : ℕ → List (List ℕ) → Outcomes → Option ℕ → Search → Run
run_within zero graph known left s = ended [] s Leg
run_within (suc turns) graph known left s = turn graph known (run_within turns graph known) left s

-- A run to its end, or to the end of its leg. No place is asked twice, so there are turns enough: they are never spent.
unfoldable pub run : List (List ℕ) → Outcomes → Option ℕ → Search → Run
run graph known left s = run_within (suc (length graph)) graph known left s

-- The run from a state with both ends, in legs of k marks or, where k is 0, to its end.
abbrev pub one_at_a_time : List (List ℕ) → Search → Outcomes → ℕ → Run
one_at_a_time graph s known k = run graph known (leg_of k) s
