-- A printed log is read and replayed: it gives the state of the run back, and the run goes on from a part of it.
use Rattle.std.proofs.Common.{◌≡◌, ℕ, zero, suc, ◌<◌, false, List, [], ◌∷◌, ◌++◌, length, map, Option, Some, None, Result, Ok, Err, refl, sym, ap, ◌∙◌, subst}
use Rattle.std.proofs.Common.{append_assoc}
use Rattle.std.proofs.lemmas.List.Elements.{All-head, All-tail}
use Rattle.std.specs.List.{All}
use Rattle.bf_graph.specs.Graph.{IsGraph}
use Rattle.bf_search.specs.declared.asks.Ask.{Ask}
use Rattle.bf_search.specs.declared.asks.Ask.TheVariants.{WaitBoth, WaitBad, WaitGood, Test, MergeBaseBad, GoodNotAncestor, BothSides, FirstBad, OnlySkipped}
use Rattle.bf_search.specs.declared.entries.Entry.{Entry}
use Rattle.bf_search.specs.declared.entries.Entry.TheVariants.{Start, Marked, SkippedBase, FirstBadFound, OnlySkippedLeft}
use Rattle.bf_search.specs.declared.outcomes.Mark.{Mark}
use Rattle.bf_search.specs.declared.outcomes.Outcome.{Outcome}
use Rattle.bf_search.specs.declared.outcomes.Verdict.{Verdict}
use Rattle.bf_search.specs.declared.outcomes.Verdict.TheVariants.{Mark as MarkOf, Abort}
use Rattle.bf_search.specs.Outcomes.{Outcomes, verdict_of}
use Rattle.bf_search.specs.State.{Search, IsSearchOver, ask, mark}
use Rattle.bf_search.specs.Run.{Run, marked_one, after_verdict, after_look, after_step, turn, run_within, run, warnings}
use Rattle.bf_search.proofs.Turns.{asking}
use Rattle.bf_terms.specs.Texts.{Commits, Sides, nothing_known, log}
use Rattle.bf_log.specs.LogState.{LogState, retold, take_entry}
use Rattle.bf_search.specs.Ends.{end_entries}
use Rattle.bf_reading.specs.Reading.{read_log, said}
use Rattle.bf_reading.specs.declared.line.LogWord.{LogWord}
use Rattle.bf_reading.specs.declared.line.LogLine.{LogLine}
use Rattle.bf_log.specs.Written.{AreNamed, words_of_entries}
use Rattle.bf_log.specs.Replay.{Setting}
use Rattle.bf_log.specs.Resolved.{ArePlaced, AreResolved, AreRunEntries}
use Rattle.bf_log.specs.Back.{Begin, start_of, told_of, IsReplayable, LeadsTo, GivesBack, GoesOnFrom}
use Rattle.bf_log.proofs.EntryWalks.{run_tells}
use Rattle.bf_log.proofs.Onward.{GoesOnAt, run_goes_on}
use Rattle.bf_log.proofs.Replaying.{replay_started}
use Rattle.bf_log.proofs.Back.{log_read_back}

-- ---- the entries of a run

abbrev Go : Type 0
Go = Option ℕ → Search → Run

warned_are : (n : ℕ) (ws : List ℕ) (entries : List Entry) → AreRunEntries n entries
    → AreRunEntries n (warnings ws ++ entries)
warned_are n [] entries h = h
warned_are n (w ∷ ws) entries h = warned_are n ws entries h

end_are : (n : ℕ) (a : Ask) → AreRunEntries n (end_entries a)
end_are n (FirstBad p) = tt
end_are n (OnlySkipped ps) = tt
end_are n (Test p) = tt
end_are n WaitBoth = tt
end_are n WaitBad = tt
end_are n WaitGood = tt
end_are n (MergeBaseBad p) = tt
end_are n (GoodNotAncestor p) = tt
end_are n (BothSides p) = tt

module _ (graph : List (List ℕ)) (known : Outcomes) (g : IsGraph graph) where
  abbrev Fits : Run → Type 0
  Fits r = AreRunEntries (length graph) r.entries

  verdict_are : (go : Go) (left : Option ℕ) (t : Search) (p : ℕ) (outcome : Outcome) (v : Verdict) → p < length graph
      → ((m : Mark) → Fits (go (marked_one left) (mark t m p))) → Fits (after_verdict go left t p outcome v)
  verdict_are go left t p outcome Abort l ih = tt
  verdict_are go left t p outcome (MarkOf m) l ih = (l, ih m)

  look_are : (go : Go) (left : Option ℕ) (t : Search) (p : ℕ) (o : Option Outcome) → p < length graph
      → ((m : Mark) → Fits (go (marked_one left) (mark t m p))) → Fits (after_look known go left t p o)
  look_are go left t p None l ih = tt
  look_are go left t p (Some outcome) l ih = verdict_are go left t p outcome (verdict_of outcome) l ih

  step_are : (go : Go) (left : Option ℕ) (s : Search) (a : Ask) → (ask graph s).step.ask ≡ a
      → ((p : ℕ) (m : Mark) → Fits (go (marked_one left) (mark (ask graph s).search m p)))
      → Fits (after_step known go left (ask graph s).search a)
  step_are go left s (Test p) h ih = look_are go left (ask graph s).search p (known p)
      (asking graph s p g h).asks_for.within (ih p)
  step_are go left s (FirstBad p) h ih = tt
  step_are go left s (OnlySkipped ps) h ih = tt
  step_are go left s WaitBoth h ih = tt
  step_are go left s WaitBad h ih = tt
  step_are go left s WaitGood h ih = tt
  step_are go left s (MergeBaseBad p) h ih = tt
  step_are go left s (GoodNotAncestor p) h ih = tt
  step_are go left s (BothSides p) h ih = tt

  turn_are : (go : Go) (left : Option ℕ) (s : Search)
      → ((p : ℕ) (m : Mark) → Fits (go (marked_one left) (mark (ask graph s).search m p)))
      → Fits (turn graph known go left s)
  turn_are go (Some zero) s ih = tt
  turn_are go None s ih = warned_are (length graph) (ask graph s).step.warned _
      (step_are go None s (ask graph s).step.ask refl ih)
  turn_are go (Some (suc k)) s ih = warned_are (length graph) (ask graph s).step.warned _
      (step_are go (Some (suc k)) s (ask graph s).step.ask refl ih)

  within_are : (n : ℕ) (left : Option ℕ) (s : Search) → Fits (run_within n graph known left s)
  unfolding run_within
  within_are zero left s = tt
  within_are (suc n) left s = turn_are (run_within n graph known) left s
      (λ p m. within_are n (marked_one left) (mark (ask graph s).search m p))

  -- A run adds no start, and marks places of the graph alone.
  pub run_are : (left : Option ℕ) (s : Search) → Fits (run graph known left s)
  unfolding run
  run_are left s = within_are (suc (length graph)) left s

pub are_append : (n : ℕ) (xs ys : List Entry) → AreRunEntries n xs → AreRunEntries n ys → AreRunEntries n (xs ++ ys)
are_append n [] ys h k = k
are_append n (Start first_parent terms_given bad goods ∷ xs) ys h k = absurd h
are_append n (Marked m p ∷ xs) ys h k = (h.0, are_append n xs ys h.1 k)
are_append n (SkippedBase p ∷ xs) ys h k = are_append n xs ys h k
are_append n (FirstBadFound p ∷ xs) ys h k = are_append n xs ys h k
are_append n (OnlySkippedLeft ps ∷ xs) ys h k = are_append n xs ys h k

-- the front of such entries
pub are_front : (n : ℕ) (xs ys : List Entry) → AreRunEntries n (xs ++ ys) → AreRunEntries n xs
are_front n [] ys h = tt
are_front n (Start first_parent terms_given bad goods ∷ xs) ys h = absurd h
are_front n (Marked m p ∷ xs) ys h = (h.0, are_front n xs ys h.1)
are_front n (SkippedBase p ∷ xs) ys h = are_front n xs ys h
are_front n (FirstBadFound p ∷ xs) ys h = are_front n xs ys h
are_front n (OnlySkippedLeft ps ∷ xs) ys h = are_front n xs ys h

pub retold_append : (graph : List (List ℕ)) (told : LogState) (xs ys : List Entry)
    → retold graph told (xs ++ ys) ≡ retold graph (retold graph told xs) ys
unfolding retold
retold_append graph told [] ys = refl
retold_append graph told (x ∷ xs) ys = retold_append graph (take_entry graph told x) xs ys

-- ---- reading and replaying

record ReadAs (r : Result (List LogLine) ℕ) (words : List LogWord) : Type 0 where
  lines : List LogLine
  read : r ≡ Ok lines
  same : map (λ (l : LogLine). l.word) lines ≡ words

read_as : (r : Result (List LogLine) ℕ) (words : List LogWord) → said r ≡ Some words → ReadAs r words
read_as (Err n) words h = cc
read_as (Ok lines) words h = record { lines = lines; read = refl; same = cc }

module _ {F : Type 0} (setting : Setting F) (commits : Commits) (sides : Sides) (b : Begin)
    (given : IsReplayable setting commits sides b) where
  named : (entries : List Entry) → AreRunEntries (length setting.graph) entries → AreNamed commits entries
  named [] h = tt
  named (Start first_parent terms_given bad goods ∷ entries) h = absurd h
  named (Marked m p ∷ entries) h = (given.named p h.0, named entries h.1)
  named (SkippedBase p ∷ entries) h = named entries h
  named (FirstBadFound p ∷ entries) h = named entries h
  named (OnlySkippedLeft ps ∷ entries) h = named entries h

  resolved : (entries : List Entry) → AreRunEntries (length setting.graph) entries
      → AreResolved setting commits entries
  resolved [] h = tt
  resolved (Start first_parent terms_given bad goods ∷ entries) h = absurd h
  resolved (Marked m p ∷ entries) h = (given.placed p h.0, resolved entries h.1)
  resolved (SkippedBase p ∷ entries) h = resolved entries h
  resolved (FirstBadFound p ∷ entries) h = resolved entries h
  resolved (OnlySkippedLeft ps ∷ entries) h = resolved entries h

  placed : (ps : List ℕ) → All (λ p. p < length setting.graph) ps → ArePlaced setting commits ps
  placed [] h = tt
  placed (p ∷ ps) h = (
    given.placed p (All-head (λ q. q < length setting.graph) p ps h),
    placed ps
        (All-tail (λ q. q < length setting.graph) p ps h),
  )

  -- A log is read and replayed, and leads where its entries lead.
  pub log_leads : (entries : List Entry) → AreRunEntries (length setting.graph) entries
      → LeadsTo setting sides (log commits sides (start_of b ∷ entries))
      (retold setting.graph (told_of setting.graph b) entries)
  log_leads entries h = record {
    lines = r.lines;
    read = r.read;
    replayed = replay_started setting commits sides b.first_parent b.terms_given b.bad b.goods entries r.lines
        given.fits given.readable.accepted (given.placed b.bad given.bad, placed b.goods given.goods)
        (resolved entries h) r.same;
  }
    where
      r : ReadAs (read_log (log commits sides (start_of b ∷ entries)))
          (words_of_entries commits sides (start_of b ∷ entries))
      r = read_as (read_log (log commits sides (start_of b ∷ entries)))
          (words_of_entries commits sides (start_of b ∷ entries))
          (log_read_back commits sides nothing_known (start_of b ∷ entries) given.readable (named entries h))

  lead_as : (text : List ℕ) (one other : LogState) → one ≡ other → LeadsTo setting sides text one
      → LeadsTo setting sides text other
  lead_as text one other same l = record {
    lines = l.lines;
    read = l.read;
    replayed = l.replayed
        ∙ ap (λ (t : LogState). Ok (record { told = t; terms = sides; terms_open = false })) same;
  }

  -- The log gives the state back: a start, entries that lead from it to a search, and a run from there.
  pub gives_back : (known : Outcomes) (left : Option ℕ) (s : Search) (later before : List Entry)
      → IsGraph setting.graph → AreRunEntries (length setting.graph) later
      → retold setting.graph (told_of setting.graph b) later ≡ record { search = s; entries = before }
      → GivesBack setting sides (log commits sides (start_of b ∷ (later ++ (run setting.graph known left s).entries)))
      before (run setting.graph known left s)
  gives_back known left s later before g are led = record {
    told = retold setting.graph (record { search = s; entries = before }) (run setting.graph known left s).entries;
    leads = lead_as (log commits sides (start_of b ∷ (later ++ (run setting.graph known left s).entries))) _ _
        (retold_append setting.graph (told_of setting.graph b) later (run setting.graph known left s).entries
        ∙ ap (λ (t : LogState). retold setting.graph t (run setting.graph known left s).entries) led)
        (log_leads (later ++ (run setting.graph known left s).entries)
        (are_append (length setting.graph) later (run setting.graph known left s).entries are
        (run_are setting.graph known g left s)));
    same = run_tells setting.graph known left s before;
  }

  -- Going on from a part of the log that ends with a mark.
  pub goes_on : (known : Outcomes) (s : Search) (later before part rest : List Entry) (m : Mark) (p : ℕ)
      → IsGraph setting.graph → IsSearchOver setting.graph s → AreRunEntries (length setting.graph) later
      → retold setting.graph (told_of setting.graph b) later ≡ record { search = s; entries = before }
      → (run setting.graph known None s).entries ≡ part ++ Marked m p ∷ rest
      → GoesOnFrom setting sides (log commits sides (start_of b ∷ (later ++ (part ++ Marked m p ∷ [])))) known
      (run setting.graph known None s) rest
  goes_on known s later before part rest m p g over are led is = record {
    told = retold setting.graph (record { search = s; entries = before }) (part ++ Marked m p ∷ []);
    leads = lead_as (log commits sides (start_of b ∷ (later ++ (part ++ Marked m p ∷ [])))) _ _
        (retold_append setting.graph (told_of setting.graph b) later (part ++ Marked m p ∷ [])
        ∙ ap (λ (t : LogState). retold setting.graph t (part ++ Marked m p ∷ [])) led)
        (log_leads (later ++ (part ++ Marked m p ∷ []))
        (are_append (length setting.graph) later (part ++ Marked m p ∷ []) are front));
    same_rest = sym on.same_rest;
    search = sym on.search;
    end = sym on.end;
  }
    where
      on : GoesOnAt setting.graph known g (retold setting.graph (record { search = s; entries = before })
          (part ++ Marked m p ∷ [])) before (run setting.graph known None s) part m p rest
      on = run_goes_on setting.graph known g s over before part m p rest is

      front : AreRunEntries (length setting.graph) (part ++ Marked m p ∷ [])
      front = are_front (length setting.graph) (part ++ Marked m p ∷ []) rest
          (subst (λ (es : List Entry). AreRunEntries (length setting.graph) es)
          (is ∙ sym (append_assoc part (Marked m p ∷ []) rest)) (run_are setting.graph known g None s))
