-- The places that a run used are those that its entries and its end tell.
use Rattle.std.proofs.Common.{◌≡◌, ℕ, zero, suc, List, [], ◌∷◌, ◌++◌, length, map, Option, Some, None, refl, sym, ap, ◌∙◌}
use Rattle.bf_search.specs.declared.asks.Ask.{Ask}
use Rattle.bf_search.specs.declared.asks.Ask.TheVariants.{WaitBoth, WaitBad, WaitGood, Test, MergeBaseBad, GoodNotAncestor, BothSides, FirstBad, OnlySkipped}
use Rattle.bf_search.specs.declared.entries.Entry.{Entry}
use Rattle.bf_search.specs.declared.entries.Entry.TheVariants.{SkippedBase}
use Rattle.bf_search.specs.declared.outcomes.Outcome.{Outcome}
use Rattle.bf_search.specs.declared.outcomes.Verdict.{Verdict}
use Rattle.bf_search.specs.declared.outcomes.Verdict.TheVariants.{Mark as MarkOf, Abort}
use Rattle.bf_search.specs.Outcomes.{Outcomes, verdict_of}
use Rattle.bf_search.specs.State.{Search, Asked, ask, mark}
use Rattle.bf_search.specs.Run.{Run, with_entries, with_used, marked_one, after_verdict, after_look, after_step, turn, run_within, run}
use Rattle.bf_farm.specs.Used.{marked_places, aborting_place}

abbrev Go : Type 0
Go = Option ℕ → Search → Run

abbrev pub IsListed : Run → Type 0
IsListed run = map (λ pair. pair.0) run.used ≡ marked_places run.entries ++ aborting_place run.end

warned_marks : (ps : List ℕ) (entries : List Entry) → marked_places (map (λ p. SkippedBase p) ps ++ entries) ≡ marked_places entries
warned_marks [] entries = refl
warned_marks (p ∷ ps) entries = warned_marks ps entries

listed_warned : (ps : List ℕ) (r : Run) → IsListed r → IsListed (with_entries (map (λ p. SkippedBase p) ps) r)
listed_warned ps r h = h ∙ ap (λ (l : List ℕ). l ++ aborting_place r.end) (sym (warned_marks ps r.entries))

module _ (known : Outcomes) where
  listed_verdict : (go : Go) (left : Option ℕ) (t : Search) (p : ℕ) (outcome : Outcome) (v : Verdict) → ((l : Option ℕ) (u : Search) → IsListed (go l u))
      → IsListed (with_used p outcome (after_verdict go left t p outcome v))
  listed_verdict go left t p outcome Abort h = refl
  listed_verdict go left t p outcome (MarkOf m) h = ap (λ (l : List ℕ). p ∷ l) (h (marked_one left) (mark t m p))

  listed_look : (go : Go) (left : Option ℕ) (t : Search) (p : ℕ) (o : Option Outcome) → ((l : Option ℕ) (u : Search) → IsListed (go l u))
      → IsListed (after_look known go left t p o)
  listed_look go left t p None h = refl
  listed_look go left t p (Some outcome) h = listed_verdict go left t p outcome (verdict_of outcome) h

  listed_step : (go : Go) (left : Option ℕ) (t : Search) (a : Ask) → ((l : Option ℕ) (u : Search) → IsListed (go l u))
      → IsListed (after_step known go left t a)
  listed_step go left t (Test p) h = listed_look go left t p (known p) h
  listed_step go left t (FirstBad p) h = refl
  listed_step go left t (OnlySkipped ps) h = refl
  listed_step go left t WaitBoth h = refl
  listed_step go left t WaitBad h = refl
  listed_step go left t WaitGood h = refl
  listed_step go left t (MergeBaseBad p) h = refl
  listed_step go left t (GoodNotAncestor p) h = refl
  listed_step go left t (BothSides p) h = refl

  listed_asked : (go : Go) (left : Option ℕ) (asked : Asked) → ((l : Option ℕ) (u : Search) → IsListed (go l u))
      → IsListed (with_entries (map (λ p. SkippedBase p) asked.step.warned) (after_step known go left asked.search asked.step.ask))
  listed_asked go left asked h = listed_warned asked.step.warned (after_step known go left asked.search asked.step.ask)
      (listed_step go left asked.search asked.step.ask h)

  listed_turn : (graph : List (List ℕ)) (go : Go) (left : Option ℕ) (s : Search) → ((l : Option ℕ) (u : Search) → IsListed (go l u))
      → IsListed (turn graph known go left s)
  listed_turn graph go (Some zero) s h = refl
  listed_turn graph go (Some (suc k)) s h = listed_asked go (Some (suc k)) (ask graph s) h
  listed_turn graph go None s h = listed_asked go None (ask graph s) h

  listed_within : (n : ℕ) (graph : List (List ℕ)) (left : Option ℕ) (s : Search) → IsListed (run_within n graph known left s)
  unfolding run_within
  listed_within zero graph left s = refl
  listed_within (suc n) graph left s = listed_turn graph (run_within n graph known) left s (λ l u. listed_within n graph l u)

  pub listed : (graph : List (List ℕ)) (left : Option ℕ) (s : Search) → IsListed (run graph known left s)
  unfolding run
  listed graph left s = listed_within (suc (length graph)) graph left s
