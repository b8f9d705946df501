-- The entries of a run tell its state.
use Rattle.std.proofs.Common.{◌≡◌, ℕ, zero, suc, List, [], ◌∷◌, ◌++◌, length, Option, Some, None, refl, sym, ap, ◌∙◌, append_assoc, append-nil}
use Rattle.bf_search.specs.declared.asks.Ask.{Ask}
use Rattle.bf_search.specs.declared.asks.Ask.TheVariants.{WaitBoth, WaitBad, WaitGood, Test, MergeBaseBad, GoodNotAncestor, BothSides, FirstBad, OnlySkipped}
use Rattle.bf_search.specs.declared.entries.Entry.{Entry}
use Rattle.bf_search.specs.declared.entries.Entry.TheVariants.{Marked}
use Rattle.bf_search.specs.declared.outcomes.Mark.{Mark}
use Rattle.bf_search.specs.declared.outcomes.Outcome.{Outcome}
use Rattle.bf_search.specs.declared.outcomes.Verdict.{Verdict}
use Rattle.bf_search.specs.declared.outcomes.Verdict.TheVariants.{Mark as MarkOf, Abort}
use Rattle.bf_search.specs.Outcomes.{Outcomes, verdict_of}
use Rattle.bf_search.specs.State.{Search, ask, mark}
use Rattle.bf_search.specs.Run.{Answered, Leg, Run, ended, with_entries, with_used, marked_one, after_verdict, after_look, after_step, turn, run_within, run, warnings}
use Rattle.bf_log.specs.LogState.{LogState, marked_on, retold, asked_on, closed, told_by}
use Rattle.bf_search.specs.Ends.{end_entries}

abbrev Go : Type 0
Go = Option ℕ → Search → Run

-- warnings tell nothing
pub retold_warned : (graph : List (List ℕ)) (told : LogState) (ps : List ℕ) (entries : List Entry)
    → retold graph told (warnings ps ++ entries) ≡ retold graph told entries
unfolding retold
retold_warned graph told [] entries = refl
retold_warned graph told (p ∷ ps) entries = retold_warned graph told ps entries

pub retold_mark : (graph : List (List ℕ)) (told : LogState) (ps : List ℕ) (m : Mark) (p : ℕ) (entries : List Entry)
    → retold graph told (warnings ps ++ Marked m p ∷ entries) ≡ retold graph (marked_on graph told m p) entries
unfolding retold
retold_mark graph told ps m p entries = retold_warned graph told ps (Marked m p ∷ entries)

-- the entry that ends a run tells nothing
retold_end : (graph : List (List ℕ)) (told : LogState) (a : Ask) → retold graph told (end_entries a) ≡ told
unfolding retold
retold_end graph told (FirstBad p) = refl
retold_end graph told (OnlySkipped ps) = refl
retold_end graph told (Test p) = refl
retold_end graph told WaitBoth = refl
retold_end graph told WaitBad = refl
retold_end graph told WaitGood = refl
retold_end graph told (MergeBaseBad p) = refl
retold_end graph told (GoodNotAncestor p) = refl
retold_end graph told (BothSides p) = refl

module _ (graph : List (List ℕ)) (known : Outcomes) where
  -- what a run from this search tells, whatever entries led to it
  abbrev pub Tells : Search → Run → Type 0
  Tells s r = (before : List Entry) → told_by before r ≡ closed graph r.end
      (retold graph (record { search = s; entries = before }) r.entries)

  -- a run that ends at this ask
  stops : (s : Search) (a : Ask) (before : List Entry) → (ask graph s).step.ask ≡ a
      → told_by before (with_entries (warnings (ask graph s).step.warned)
      (ended (end_entries a) (ask graph s).search (Answered a)))
      ≡ asked_on graph (retold graph (record { search = s; entries = before })
      (warnings (ask graph s).step.warned ++ end_entries a))
  stops s a before h =
      ap (λ (x : Ask). record {
        search = (ask graph s).search;
        entries = before ++ (warnings (ask graph s).step.warned ++ end_entries x);
      }) (sym h)
      ∙ ap (λ (t : LogState). asked_on graph t) (sym (retold_warned graph (record { search = s; entries = before })
      (ask graph s).step.warned (end_entries a) ∙ retold_end graph (record { search = s; entries = before }) a))

  -- a run that goes on behind a mark
  goes_on : (s : Search) (m : Mark) (p : ℕ) (r : Run) → Tells (mark (ask graph s).search m p) r
      → Tells s (with_entries (warnings (ask graph s).step.warned) (with_entries (Marked m p ∷ []) r))
  goes_on s m p r h = λ before.
      ap (λ (es : List Entry). record { search = r.search; entries = es })
      (sym (append_assoc before (warnings (ask graph s).step.warned ++ Marked m p ∷ []) r.entries
      ∙ ap (λ (es : List Entry). before ++ es) (append_assoc (warnings (ask graph s).step.warned) (Marked m p ∷ [])
      r.entries)))
      ∙ h (before ++ (warnings (ask graph s).step.warned ++ Marked m p ∷ []))
      ∙ ap (λ (t : LogState). closed graph r.end t) (sym
      (retold_mark graph (record { search = s; entries = before }) (ask graph s).step.warned m p r.entries))

  verdict_tells : (go : Go) (left : Option ℕ) (s : Search) (p : ℕ) (outcome : Outcome) (v : Verdict)
      → (ask graph s).step.ask ≡ Test p
      → ((m : Mark) → Tells (mark (ask graph s).search m p) (go (marked_one left) (mark (ask graph s).search m p)))
      → Tells s (with_entries (warnings (ask graph s).step.warned)
      (with_used p outcome (after_verdict go left (ask graph s).search p outcome v)))
  verdict_tells go left s p outcome Abort h ih = λ before. stops s (Test p) before h
  verdict_tells go left s p outcome (MarkOf m) h ih = goes_on s m p
      (go (marked_one left) (mark (ask graph s).search m p)) (ih m)

  look_tells : (go : Go) (left : Option ℕ) (s : Search) (p : ℕ) (o : Option Outcome) → (ask graph s).step.ask ≡ Test p
      → ((m : Mark) → Tells (mark (ask graph s).search m p) (go (marked_one left) (mark (ask graph s).search m p)))
      → Tells s (with_entries (warnings (ask graph s).step.warned)
      (after_look known go left (ask graph s).search p o))
  look_tells go left s p None h ih = λ before. stops s (Test p) before h
  look_tells go left s p (Some outcome) h ih = verdict_tells go left s p outcome (verdict_of outcome) h ih

  step_tells : (go : Go) (left : Option ℕ) (s : Search) (a : Ask) → (ask graph s).step.ask ≡ a
      → ((p : ℕ) (m : Mark) → Tells (mark (ask graph s).search m p)
      (go (marked_one left) (mark (ask graph s).search m p)))
      → Tells s (with_entries (warnings (ask graph s).step.warned) (after_step known go left (ask graph s).search a))
  step_tells go left s (Test p) h ih = look_tells go left s p (known p) h (ih p)
  step_tells go left s (FirstBad p) h ih = λ before. stops s (FirstBad p) before h
  step_tells go left s (OnlySkipped ps) h ih = λ before. stops s (OnlySkipped ps) before h
  step_tells go left s WaitBoth h ih = λ before. stops s WaitBoth before h
  step_tells go left s WaitBad h ih = λ before. stops s WaitBad before h
  step_tells go left s WaitGood h ih = λ before. stops s WaitGood before h
  step_tells go left s (MergeBaseBad p) h ih = λ before. stops s (MergeBaseBad p) before h
  step_tells go left s (GoodNotAncestor p) h ih = λ before. stops s (GoodNotAncestor p) before h
  step_tells go left s (BothSides p) h ih = λ before. stops s (BothSides p) before h

  leg_tells : (s : Search) → Tells s (ended [] s Leg)
  unfolding retold
  leg_tells s = λ before. ap (λ (es : List Entry). record { search = s; entries = es }) (append-nil before)

  turn_tells : (go : Go) (left : Option ℕ) (s : Search)
      → ((p : ℕ) (m : Mark) → Tells (mark (ask graph s).search m p)
      (go (marked_one left) (mark (ask graph s).search m p)))
      → Tells s (turn graph known go left s)
  turn_tells go None s ih = step_tells go None s (ask graph s).step.ask refl ih
  turn_tells go (Some zero) s ih = leg_tells s
  turn_tells go (Some (suc k)) s ih = step_tells go (Some (suc k)) s (ask graph s).step.ask refl ih

  within_tells : (n : ℕ) (left : Option ℕ) (s : Search) → Tells s (run_within n graph known left s)
  unfolding run_within
  within_tells zero left s = leg_tells s
  within_tells (suc n) left s = turn_tells (run_within n graph known) left s
      (λ p m. within_tells n (marked_one left) (mark (ask graph s).search m p))

  -- The entries of a run tell its state: the one behind the last mark where it ended with its leg, and otherwise one
  -- ask further. They are the told ones, with the warnings in their places.
  pub run_tells : (left : Option ℕ) (s : Search) → Tells s (run graph known left s)
  unfolding run
  run_tells left s = within_tells (suc (length graph)) left s
