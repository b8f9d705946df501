-- The places that a run names are places of its graph.
use Rattle.std.proofs.Common.{ℕ, zero, suc, ◌<◌, List, [], ◌∷◌, length, map, Option, Some, None, sym, subst, ap}
use Rattle.std.specs.List.{All}
use Rattle.std.specs.Option.{IfSome}
use Rattle.std.proofs.lemmas.List.Elements.{All-nil, All-push, All-append, All-map}
use Rattle.bf_graph.specs.Graph.{IsGraph}
use Rattle.bf_search.specs.Within.{IsAskWithin, IsEntryWithin}
use Rattle.bf_search.specs.declared.asks.Ask.{Ask}
use Rattle.bf_search.specs.declared.asks.Ask.TheVariants.{WaitBoth, WaitBad, WaitGood, Test, MergeBaseBad, GoodNotAncestor, BothSides, FirstBad, OnlySkipped}
use Rattle.bf_search.specs.declared.entries.Entry.{Entry}
use Rattle.bf_search.specs.declared.entries.Entry.TheVariants.{Marked, SkippedBase, FirstBadFound, OnlySkippedLeft}
use Rattle.bf_search.specs.declared.outcomes.Mark.{Mark}
use Rattle.bf_search.specs.declared.outcomes.Mark.TheVariants as marks
use Rattle.bf_search.specs.declared.outcomes.Outcome.{Outcome}
use Rattle.bf_search.specs.declared.outcomes.Verdict.{Verdict}
use Rattle.bf_search.specs.declared.outcomes.Verdict.TheVariants as verdicts
use Rattle.bf_search.specs.Outcomes.{Outcomes, verdict_of}
use Rattle.bf_search.specs.Run.{End, Answered, Leg, Open, Aborted, Run, ended, with_entries, marked_one, after_verdict, after_look, after_step, after_ask, turn}
use Rattle.bf_search.specs.Run.{run_within, run, one_at_a_time}
use Rattle.bf_search.specs.State.{Search, ask, mark}
use Rattle.bf_runs.proofs.Places.{ask_within}
use Rattle.bf_state.proofs.Within.{warned_within}
use Rattle.bf_state.proofs.Asks.{ask_leaves}

-- all places of an end
abbrev pub IsEndWithin : ℕ → End → Type 0
IsEndWithin len (Answered a) = IsAskWithin len a
IsEndWithin len Leg = Unit {0}
IsEndWithin len (Open p) = p < len
IsEndWithin len (Aborted p outcome) = p < len

pub record IsRunWithin (len : ℕ) (run : Run) : Type 0 where
  pub entries : All (IsEntryWithin len) run.entries
  pub end : IsEndWithin len run.end

abbrev HasBad : ℕ → Search → Type 0
HasBad len s = IfSome s.bad (λ p. p < len)

one : (n : ℕ) (entry : Entry) → IsEntryWithin n entry → All (IsEntryWithin n) (entry ∷ [])
one n entry h = All-push (IsEntryWithin n) [] entry (All-nil (IsEntryWithin n)) h

more : (n : ℕ) (entries : List Entry) (r : Run) → All (IsEntryWithin n) entries → IsRunWithin n r → IsRunWithin n (with_entries entries r)
more n entries r h w = record { entries = All-append (IsEntryWithin n) entries r.entries h w.entries; end = w.end }

bare : (n : ℕ) (s : Search) (e : End) → IsEndWithin n e → IsRunWithin n (ended [] s e)
bare n s e h = record { entries = All-nil (IsEntryWithin n); end = h }

marked_bad : (n : ℕ) (s : Search) (m : Mark) (p : ℕ) → HasBad n s → p < n → HasBad n (mark s m p)
unfolding mark
marked_bad n s marks.Good p h w = h
marked_bad n s marks.Bad p h w = w
marked_bad n s marks.Skip p h w = h

module _ (n : ℕ) (known : Outcomes) (go : Option ℕ → Search → Run) (goes : (left : Option ℕ) (s : Search) → HasBad n s → IsRunWithin n (go left s)) where
  by_verdict : (left : Option ℕ) (s : Search) (p : ℕ) (outcome : Outcome) (v : Verdict) → HasBad n s → p < n
      → IsRunWithin n (after_verdict go left s p outcome v)
  by_verdict left s p outcome verdicts.Abort h w = bare n s (Aborted p outcome) w
  by_verdict left s p outcome (verdicts.Mark m) h w =
      more n (Marked m p ∷ []) (go (marked_one left) (mark s m p)) (one n (Marked m p) w) (goes (marked_one left) (mark s m p) (marked_bad n s m p h w))

  by_look : (left : Option ℕ) (s : Search) (p : ℕ) (found : Option Outcome) → HasBad n s → p < n → IsRunWithin n (after_look known go left s p found)
  by_look left s p None h w = bare n s (Open p) w
  by_look left s p (Some outcome) h w =
      let r = by_verdict left s p outcome (verdict_of outcome) h w in
      record { entries = r.entries; end = r.end }

  by_step : (left : Option ℕ) (s : Search) (a : Ask) → HasBad n s → IsAskWithin n a → IsRunWithin n (after_step known go left s a)
  by_step left s (Test p) h w = by_look left s p (known p) h w
  by_step left s (FirstBad p) h w = record { entries = one n (FirstBadFound p) w; end = w }
  by_step left s (OnlySkipped ps) h w = record { entries = one n (OnlySkippedLeft ps) w; end = w }
  by_step left s (MergeBaseBad p) h w = bare n s (Answered (MergeBaseBad p)) w
  by_step left s (GoodNotAncestor p) h w = bare n s (Answered (GoodNotAncestor p)) w
  by_step left s (BothSides p) h w = bare n s (Answered (BothSides p)) w
  by_step left s WaitBoth h w = bare n s (Answered WaitBoth) w
  by_step left s WaitBad h w = bare n s (Answered WaitBad) w
  by_step left s WaitGood h w = bare n s (Answered WaitGood) w

asked_bad : (graph : List (List ℕ)) (s : Search) (n : ℕ) → HasBad n s → HasBad n (ask graph s).search
asked_bad graph s n h = subst (λ (b : Option ℕ). IfSome b (λ p. p < n)) (sym (ap (λ (t : Search). t.bad) (ask_leaves graph s))) h

by_turn : (graph : List (List ℕ)) (known : Outcomes) (go : Option ℕ → Search → Run) (left : Option ℕ) (s : Search) → IsGraph graph
    → ((left : Option ℕ) (s : Search) → HasBad (length graph) s → IsRunWithin (length graph) (go left s))
    → HasBad (length graph) s → IsRunWithin (length graph) (after_ask known go left (ask graph s))
by_turn graph known go left s g goes h =
    more (length graph) (map (λ p. SkippedBase p) (ask graph s).step.warned) _
    (All-map (IsEntryWithin (length graph)) (λ p. SkippedBase p) (ask graph s).step.warned (warned_within graph s h))
    (by_step (length graph) known go goes left (ask graph s).search (ask graph s).step.ask (asked_bad graph s (length graph) h) (ask_within graph s g h))

by_left : (graph : List (List ℕ)) (known : Outcomes) (go : Option ℕ → Search → Run) (left : Option ℕ) (s : Search) → IsGraph graph
    → ((left : Option ℕ) (s : Search) → HasBad (length graph) s → IsRunWithin (length graph) (go left s))
    → HasBad (length graph) s → IsRunWithin (length graph) (turn graph known go left s)
by_left graph known go (Some zero) s g goes h = bare (length graph) s Leg tt
by_left graph known go (Some (suc k)) s g goes h = by_turn graph known go (Some (suc k)) s g goes h
by_left graph known go None s g goes h = by_turn graph known go None s g goes h

within_turns : (turns : ℕ) (graph : List (List ℕ)) (known : Outcomes) (left : Option ℕ) (s : Search) → IsGraph graph → HasBad (length graph) s
    → IsRunWithin (length graph) (run_within turns graph known left s)
unfolding run_within
within_turns zero graph known left s g h = bare (length graph) s Leg tt
within_turns (suc turns) graph known left s g h =
    by_left graph known (run_within turns graph known) left s g (λ l t. within_turns turns graph known l t g) h

-- the places that a run names are places of its graph
pub run_is_within : (graph : List (List ℕ)) (known : Outcomes) (s : Search) (k : ℕ) → IsGraph graph → HasBad (length graph) s
    → IsRunWithin (length graph) (one_at_a_time graph s known k)
unfolding run
run_is_within graph known s k g h = within_turns _ graph known _ s g h
