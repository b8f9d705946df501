-- Runs of one search with different outcomes.
use Rattle.std.proofs.Common.{◌≡◌, ℕ, zero, suc, ◌<◌, true, false, List, [], ◌∷◌, ◌++◌, length, map, Option, Some, None, refl, sym, ap, ◌∙◌, subst}
use Rattle.std.proofs.Common.{append_assoc, arith}
use Rattle.std.specs.Option.{IfSome}
use Rattle.bf_graph.specs.Graph.{IsGraph}
use Rattle.bf_search.specs.declared.asks.Ask.{Ask}
use Rattle.bf_search.specs.declared.asks.Ask.TheVariants.{WaitBoth, WaitBad, WaitGood, Test, MergeBaseBad, GoodNotAncestor, BothSides, FirstBad, OnlySkipped}
use Rattle.bf_search.specs.declared.entries.Entry.{Entry}
use Rattle.bf_search.specs.declared.entries.Entry.TheVariants.{Marked, SkippedBase, FirstBadFound, OnlySkippedLeft}
use Rattle.bf_search.specs.declared.outcomes.Outcome.{Outcome}
use Rattle.bf_search.specs.declared.outcomes.Mark.{Mark}
use Rattle.bf_search.specs.declared.outcomes.Verdict.{Verdict}
use Rattle.bf_search.specs.declared.outcomes.Verdict.TheVariants.{Mark as MarkOf, Abort}
use Rattle.bf_search.specs.Outcomes.{Outcomes, verdict_of}
use Rattle.bf_search.specs.State.{Search, Asked, IsSearchOver, ask, mark}
use Rattle.bf_search.specs.LeftToAsk.{left_to_ask}
use Rattle.bf_search.specs.Run.{Answered, Leg, Open, Aborted, Run, ended, with_entries, with_used, leg_of, marked_one, after_verdict, after_look, after_step}
use Rattle.bf_search.specs.Run.{after_ask, turn, run_within, run, one_at_a_time}
use Rattle.bf_search.proofs.Turns.{Asking, asking, left_to_ask-falls, left_to_ask-le, IsSearchOver-marked, run-is}
use Rattle.bf_state.specs.Runs.{IsPartOf, GoesOn, is_open, is_unfinished, in_sequence}
use Rattle.bf_state.proofs.AskAgain.{ask_again}

-- ---- where more is known

-- the other run has the same entries as far as this one goes, and is the same if this one is not open
pub record IsLonger (run more : Run) : Type 0 where
  pub begins : GoesOn run.entries more.entries
  pub alike : is_open run.end ≡ false → more ≡ run

same_is_longer : (r : Run) → IsLonger r r
same_is_longer r = record { begins = record { rest = []; goes_on = sym (append_nil r.entries) }; alike = λ h. refl }
  where
    append_nil : (xs : List Entry) → xs ++ [] ≡ xs
    append_nil [] = refl
    append_nil (x ∷ xs) = ap (λ ys. x ∷ ys) (append_nil xs)

longer_entries : (es : List Entry) (r s : Run) → IsLonger r s → IsLonger (with_entries es r) (with_entries es s)
longer_entries es r s l = record {
  begins = record { rest = l.begins.rest; goes_on = ap (λ (xs : List Entry). es ++ xs) l.begins.goes_on ∙ sym (append_assoc es r.entries l.begins.rest) };
  alike = λ h. ap (λ (x : Run). with_entries es x) (l.alike h);
}

longer_used : (p : ℕ) (outcome : Outcome) (r s : Run) → IsLonger r s → IsLonger (with_used p outcome r) (with_used p outcome s)
longer_used p outcome r s l = record {
  begins = record { rest = l.begins.rest; goes_on = l.begins.goes_on };
  alike = λ h. ap (λ (x : Run). with_used p outcome x) (l.alike h);
}

open_is_longer : (s : Search) (p : ℕ) (r : Run) → IsLonger (ended [] s (Open p)) r
open_is_longer s p r = record { begins = record { rest = r.entries; goes_on = refl }; alike = λ h. cc }

abbrev Go : Type 0
Go = Option ℕ → Search → Run

verdict_longer : (go other : Go) (left : Option ℕ) (t : Search) (p : ℕ) (outcome : Outcome) (v : Verdict)
    → ((l : Option ℕ) (u : Search) → IsLonger (go l u) (other l u))
    → IsLonger (after_verdict go left t p outcome v) (after_verdict other left t p outcome v)
verdict_longer go other left t p outcome Abort h = same_is_longer (ended [] t (Aborted p outcome))
verdict_longer go other left t p outcome (MarkOf m) h = longer_entries (Marked m p ∷ []) (go (marked_one left) (mark t m p))
    (other (marked_one left) (mark t m p)) (h (marked_one left) (mark t m p))

look_longer : (known more : Outcomes) (go other : Go) (left : Option ℕ) (t : Search) (p : ℕ) (o : Option Outcome) → IfSome o (λ outcome. more p ≡ Some outcome)
    → ((l : Option ℕ) (u : Search) → IsLonger (go l u) (other l u))
    → IsLonger (after_look known go left t p o) (after_look more other left t p (more p))
look_longer known more go other left t p None part h = open_is_longer t p (after_look more other left t p (more p))
look_longer known more go other left t p (Some outcome) part h =
    subst (λ (x : Option Outcome). IsLonger (with_used p outcome (after_verdict go left t p outcome (verdict_of outcome))) (after_look more other left t p x))
    (sym part)
    (longer_used p outcome (after_verdict go left t p outcome (verdict_of outcome)) (after_verdict other left t p outcome (verdict_of outcome))
    (verdict_longer go other left t p outcome (verdict_of outcome) h))

step_longer : (known more : Outcomes) (go other : Go) (left : Option ℕ) (t : Search) (a : Ask) → IsPartOf known more
    → ((l : Option ℕ) (u : Search) → IsLonger (go l u) (other l u))
    → IsLonger (after_step known go left t a) (after_step more other left t a)
step_longer known more go other left t (Test p) part h = look_longer known more go other left t p (known p) (part p) h
step_longer known more go other left t (FirstBad p) part h = same_is_longer (ended (FirstBadFound p ∷ []) t (Answered (FirstBad p)))
step_longer known more go other left t (OnlySkipped ps) part h = same_is_longer (ended (OnlySkippedLeft ps ∷ []) t (Answered (OnlySkipped ps)))
step_longer known more go other left t WaitBoth part h = same_is_longer (ended [] t (Answered WaitBoth))
step_longer known more go other left t WaitBad part h = same_is_longer (ended [] t (Answered WaitBad))
step_longer known more go other left t WaitGood part h = same_is_longer (ended [] t (Answered WaitGood))
step_longer known more go other left t (MergeBaseBad p) part h = same_is_longer (ended [] t (Answered (MergeBaseBad p)))
step_longer known more go other left t (GoodNotAncestor p) part h = same_is_longer (ended [] t (Answered (GoodNotAncestor p)))
step_longer known more go other left t (BothSides p) part h = same_is_longer (ended [] t (Answered (BothSides p)))

ask_longer : (known more : Outcomes) (go other : Go) (left : Option ℕ) (asked : Asked) → IsPartOf known more
    → ((l : Option ℕ) (u : Search) → IsLonger (go l u) (other l u))
    → IsLonger (after_ask known go left asked) (after_ask more other left asked)
ask_longer known more go other left asked part h =
    longer_entries (map (λ p. SkippedBase p) asked.step.warned) (after_step known go left asked.search asked.step.ask)
    (after_step more other left asked.search asked.step.ask)
    (step_longer known more go other left asked.search asked.step.ask part h)

turn_longer : (graph : List (List ℕ)) (known more : Outcomes) (go other : Go) (left : Option ℕ) (s : Search) → IsPartOf known more
    → ((l : Option ℕ) (u : Search) → IsLonger (go l u) (other l u))
    → IsLonger (turn graph known go left s) (turn graph more other left s)
turn_longer graph known more go other (Some zero) s part h = same_is_longer (ended [] s Leg)
turn_longer graph known more go other (Some (suc k)) s part h = ask_longer known more go other (Some (suc k)) (ask graph s) part h
turn_longer graph known more go other None s part h = ask_longer known more go other None (ask graph s) part h

within_longer : (n : ℕ) (graph : List (List ℕ)) (known more : Outcomes) (left : Option ℕ) (s : Search) → IsPartOf known more
    → IsLonger (run_within n graph known left s) (run_within n graph more left s)
unfolding run_within
within_longer zero graph known more left s part = same_is_longer (ended [] s Leg)
within_longer (suc n) graph known more left s part =
    turn_longer graph known more (run_within n graph known) (run_within n graph more) left s part (λ l u. within_longer n graph known more l u part)

pub run_longer : (graph : List (List ℕ)) (known more : Outcomes) (left : Option ℕ) (s : Search) → IsPartOf known more
    → IsLonger (run graph known left s) (run graph more left s)
unfolding run
run_longer graph known more left s part = within_longer (suc (length graph)) graph known more left s part

pub seq_goes_on : (graph : List (List ℕ)) (s : Search) (known more : Outcomes) (k : ℕ) → IsPartOf known more
    → GoesOn (one_at_a_time graph s known k).entries (one_at_a_time graph s more k).entries
seq_goes_on graph s known more k part = (run_longer graph known more (leg_of k) s part).begins

pub seq_ends_alike : (graph : List (List ℕ)) (s : Search) (known more : Outcomes) (k : ℕ) → IsPartOf known more
    → is_open (one_at_a_time graph s known k).end ≡ false
    → one_at_a_time graph s more k ≡ one_at_a_time graph s known k
seq_ends_alike graph s known more k part h = (run_longer graph known more (leg_of k) s part).alike h

-- ---- one run after another

pub sequence_entries : (es : List Entry) (first second : Run) → in_sequence (with_entries es first) second ≡ with_entries es (in_sequence first second)
sequence_entries es first second = ap (λ (xs : List Entry). record second { entries = xs; used = first.used ++ second.used })
    (append_assoc es first.entries second.entries)

module _ (graph : List (List ℕ)) (known more : Outcomes) (g : IsGraph graph) (part : IsPartOf known more) where
  -- the run goes on after that one
  abbrev Follows : Run → Search → Type 0
  Follows first s = is_unfinished first.end ≡ true → run graph more None s ≡ in_sequence first (run graph more None first.search)

  abbrev StepFollows : Run → Run → Type 0
  StepFollows first whole = is_unfinished first.end ≡ true → whole ≡ in_sequence first (run graph more None first.search)

  -- the state that was asked is over the graph
  pub over_asked : (s : Search) (p : ℕ) → IsSearchOver graph s → (ask graph s).step.ask ≡ Test p → IsSearchOver graph (ask graph s).search
  over_asked s p over h = record {
    bad = rw a.same.bad over.bad;
    goods = rw a.same.goods over.goods;
    skips = ap length a.same.skips ∙ over.skips;
    expected = subst (λ (e : Option ℕ). IfSome e (λ q. q < length graph)) (sym a.expected) a.asks_for.within;
  }
    where
      a : Asking graph s (ask graph s) p
      a = asking graph s p g h

  -- from the state that was asked the run goes on with the same ask
  from_asked : (s : Search) (p : ℕ) → IsSearchOver graph s → (ask graph s).step.ask ≡ Test p
      → run graph more None (ask graph s).search ≡ after_look more (run graph more) None (ask graph s).search p (more p)
  from_asked s p over h =
      run-is graph more None (ask graph s).search g (over_asked s p over h)
      ∙ ap (λ (a : Asked). after_ask more (run graph more) None a) (ask_again graph s)
      ∙ ap (λ (a : Ask). after_step more (run graph more) None (ask graph s).search a) h

  verdict_follows : (go : Go) (left : Option ℕ) (t : Search) (p : ℕ) (outcome : Outcome) (v : Verdict)
      → ((m : Mark) → Follows (go (marked_one left) (mark t m p)) (mark t m p))
      → StepFollows (after_verdict go left t p outcome v) (after_verdict (run graph more) None t p outcome v)
  verdict_follows go left t p outcome Abort h = λ e. cc
  verdict_follows go left t p outcome (MarkOf m) h = λ e. ap (λ (r : Run). with_entries (Marked m p ∷ []) r) (h m e)

  look_follows : (go : Go) (left : Option ℕ) (s : Search) (p : ℕ) (o : Option Outcome) → IsSearchOver graph s → (ask graph s).step.ask ≡ Test p
      → IfSome o (λ outcome. more p ≡ Some outcome)
      → ((m : Mark) → Follows (go (marked_one left) (mark (ask graph s).search m p)) (mark (ask graph s).search m p))
      → StepFollows (after_look known go left (ask graph s).search p o) (after_look more (run graph more) None (ask graph s).search p (more p))
  look_follows go left s p None over asks told h = λ e. sym (from_asked s p over asks)
  look_follows go left s p (Some outcome) over asks told h = λ e.
      ap (λ (x : Option Outcome). after_look more (run graph more) None (ask graph s).search p x) told
      ∙ ap (λ (r : Run). with_used p outcome r) (verdict_follows go left (ask graph s).search p outcome (verdict_of outcome) h e)

  step_follows : (go : Go) (left : Option ℕ) (s : Search) (a : Ask) → IsSearchOver graph s → (ask graph s).step.ask ≡ a
      → ((p : ℕ) (m : Mark) → (ask graph s).step.ask ≡ Test p → Follows (go (marked_one left) (mark (ask graph s).search m p)) (mark (ask graph s).search m p))
      → StepFollows (after_step known go left (ask graph s).search a) (after_step more (run graph more) None (ask graph s).search a)
  step_follows go left s (Test p) over asks h = look_follows go left s p (known p) over asks (part p) (λ m. h p m asks)
  step_follows go left s (FirstBad p) over asks h = λ e. cc
  step_follows go left s (OnlySkipped ps) over asks h = λ e. cc
  step_follows go left s WaitBoth over asks h = λ e. cc
  step_follows go left s WaitBad over asks h = λ e. cc
  step_follows go left s WaitGood over asks h = λ e. cc
  step_follows go left s (MergeBaseBad p) over asks h = λ e. cc
  step_follows go left s (GoodNotAncestor p) over asks h = λ e. cc
  step_follows go left s (BothSides p) over asks h = λ e. cc

  ask_follows : (go : Go) (left : Option ℕ) (s : Search) → IsSearchOver graph s
      → ((p : ℕ) (m : Mark) → (ask graph s).step.ask ≡ Test p → Follows (go (marked_one left) (mark (ask graph s).search m p)) (mark (ask graph s).search m p))
      → Follows (after_ask known go left (ask graph s)) s
  ask_follows go left s over h = λ e.
      run-is graph more None s g over
      ∙ ap (λ (r : Run). with_entries (map (λ p. SkippedBase p) (ask graph s).step.warned) r) (step_follows go left s (ask graph s).step.ask over refl h e)
      ∙ sym (sequence_entries (map (λ p. SkippedBase p) (ask graph s).step.warned) (after_step known go left (ask graph s).search (ask graph s).step.ask)
      (run graph more None (after_step known go left (ask graph s).search (ask graph s).step.ask).search))

  turn_follows : (go : Go) (left : Option ℕ) (s : Search) → IsSearchOver graph s
      → ((p : ℕ) (m : Mark) → (ask graph s).step.ask ≡ Test p → Follows (go (marked_one left) (mark (ask graph s).search m p)) (mark (ask graph s).search m p))
      → Follows (turn graph known go left s) s
  turn_follows go (Some zero) s over h = λ e. refl
  turn_follows go (Some (suc k)) s over h = ask_follows go (Some (suc k)) s over h
  turn_follows go None s over h = ask_follows go None s over h

  within_follows : (n : ℕ) (left : Option ℕ) (s : Search) → IsSearchOver graph s → left_to_ask graph s < n → Follows (run_within n graph known left s) s
  unfolding run_within
  within_follows zero left s over few = absurd (omega arith)
  within_follows (suc n) left s over few =
      turn_follows (run_within n graph known) left s over
      (λ p m h. within_follows n (marked_one left) (mark (ask graph s).search m p) (IsSearchOver-marked graph s m p g over h)
      (omega (arith, left_to_ask-falls graph s m p g over h)))

  pub run_follows : (left : Option ℕ) (s : Search) → IsSearchOver graph s → Follows (run graph known left s) s
  unfolding run
  run_follows left s over = within_follows (suc (length graph)) left s over (omega (arith, left_to_ask-le graph s))
