-- A run goes on from a part of its log.
use Rattle.std.proofs.Common.{◌≡◌, ℕ, zero, suc, ◌<◌, Bool, true, false, List, [], ◌∷◌, ◌++◌, length, Option, Some, None, refl, sym, ap, ◌∙◌, append_assoc}
use Rattle.std.proofs.Common.{arith, inl, inr, ⊎_elim, ◌⊎◌}
use Rattle.bf_graph.specs.Graph.{IsGraph}
use Rattle.bf_search.specs.declared.asks.Ask.{Ask}
use Rattle.bf_search.specs.declared.asks.Ask.TheVariants.{WaitBoth, WaitBad, WaitGood, Test, MergeBaseBad, GoodNotAncestor, BothSides, FirstBad, OnlySkipped}
use Rattle.bf_search.specs.declared.entries.Entry.{Entry}
use Rattle.bf_search.specs.declared.entries.Entry.TheVariants.{Start, Marked, SkippedBase, FirstBadFound, OnlySkippedLeft}
use Rattle.bf_search.specs.declared.outcomes.Mark.{Mark}
use Rattle.bf_search.specs.declared.outcomes.Outcome.{Outcome}
use Rattle.bf_search.specs.declared.outcomes.Verdict.{Verdict}
use Rattle.bf_search.specs.declared.outcomes.Verdict.TheVariants.{Mark as MarkOf, Abort}
use Rattle.bf_search.specs.Outcomes.{Outcomes, verdict_of}
use Rattle.bf_search.specs.State.{Search, IsSearchOver, ask, mark}
use Rattle.bf_search.specs.Run.{End, Answered, Open, Aborted, Run, ended, with_entries, with_used, after_verdict, after_look, after_step, after_ask, run, warnings}
use Rattle.bf_search.specs.LeftToAsk.{left_to_ask}
use Rattle.bf_search.proofs.Turns.{left_to_ask-falls, left_to_ask-le, IsSearchOver-marked, run-is}
use Rattle.bf_log.specs.LogState.{LogState, marked_on, retold}
use Rattle.bf_search.specs.Ends.{end_entries}
use Rattle.bf_log.proofs.EntryWalks.{retold_mark}

has_mark : List Entry → Bool
has_mark [] = false
has_mark (Marked m p ∷ es) = true
has_mark (other ∷ es) = has_mark es

has_mark-there : (es : List Entry) (m : Mark) (p : ℕ) (rest : List Entry) → has_mark (es ++ Marked m p ∷ rest) ≡ true
unfolding has_mark
has_mark-there [] m p rest = refl
has_mark-there (Marked n q ∷ es) m p rest = refl
has_mark-there (Start f t b g ∷ es) m p rest = has_mark-there es m p rest
has_mark-there (SkippedBase q ∷ es) m p rest = has_mark-there es m p rest
has_mark-there (FirstBadFound q ∷ es) m p rest = has_mark-there es m p rest
has_mark-there (OnlySkippedLeft qs ∷ es) m p rest = has_mark-there es m p rest

has_mark-end : (a : Ask) → has_mark (end_entries a) ≡ false
unfolding has_mark
has_mark-end (FirstBad p) = refl
has_mark-end (OnlySkipped ps) = refl
has_mark-end (Test p) = refl
has_mark-end WaitBoth = refl
has_mark-end WaitBad = refl
has_mark-end WaitGood = refl
has_mark-end (MergeBaseBad p) = refl
has_mark-end (GoodNotAncestor p) = refl
has_mark-end (BothSides p) = refl

has_mark-stop : (ws : List ℕ) (a : Ask) → has_mark (warnings ws ++ end_entries a) ≡ false
unfolding has_mark
has_mark-stop [] a = has_mark-end a
has_mark-stop (w ∷ ws) a = has_mark-stop ws a

-- a cut of entries behind a mark: behind the first mark, or behind a later one
pub record CutLater (ws : List ℕ) (n : Mark) (q : ℕ) (es es_before : List Entry) (m : Mark) (p : ℕ)
    (rest : List Entry) : Type 0 where
  pub part : List Entry
  pub front : es_before ++ Marked m p ∷ [] ≡ warnings ws ++ Marked n q ∷ (part ++ Marked m p ∷ [])
  pub back : es ≡ part ++ Marked m p ∷ rest

abbrev pub CutHere : List ℕ → Mark → ℕ → List Entry → List Entry → Mark → ℕ → List Entry → Type 0
CutHere ws n q es before m p rest = (before ++ Marked m p ∷ [] ≡ warnings ws ++ Marked n q ∷ []) × (es ≡ rest)

cut : (ws : List ℕ) (n : Mark) (q : ℕ) (es before : List Entry) (m : Mark) (p : ℕ) (rest : List Entry)
    → warnings ws ++ Marked n q ∷ es ≡ before ++ Marked m p ∷ rest
    → CutHere ws n q es before m p rest ⊎ CutLater ws n q es before m p rest
cut [] n q es [] m p rest h =
    let head : Marked n q ≡ Marked m p = cc in
    let tail : es ≡ rest = cc in
    inl (ap (λ (x : Entry). x ∷ []) (sym head), tail)
cut [] n q es (x ∷ xs) m p rest h =
    let head : Marked n q ≡ x = cc in
    let tail : es ≡ xs ++ Marked m p ∷ rest = cc in
    inr (record { part = xs; front = ap (λ (y : Entry). y ∷ (xs ++ Marked m p ∷ [])) (sym head); back = tail })
cut (w ∷ ws) n q es [] m p rest h = cc
cut (w ∷ ws) n q es (x ∷ xs) m p rest h =
    let head : SkippedBase w ≡ x = cc in
    let tail : warnings ws ++ Marked n q ∷ es ≡ xs ++ Marked m p ∷ rest = cc in
    ⊎_elim
    (λ here. inl (
      ap (λ (y : Entry). y ∷ (xs ++ Marked m p ∷ [])) (sym head)
          ∙ ap (λ (ys : List Entry). SkippedBase w ∷ ys) here.0,
      here.1,
    ))
    (λ later. inr (record {
      part = later.part;
      front = ap (λ (y : Entry). y ∷ (xs ++ Marked m p ∷ [])) (sym head)
          ∙ ap (λ (ys : List Entry). SkippedBase w ∷ ys) later.front;
      back = later.back;
    }))
    (cut ws n q es xs m p rest tail)

module _ (graph : List (List ℕ)) (known : Outcomes) (g : IsGraph graph) where
  -- the run goes on from what this part of its log tells
  pub record GoesOnAt (told : LogState) (before : List Entry) (r : Run) (part : List Entry) (m : Mark) (p : ℕ)
      (rest : List Entry) : Type 0 where
    pub same_rest : rest ≡ (run graph known None told.search).entries
    pub search : r.search ≡ (run graph known None told.search).search
    pub end : r.end ≡ (run graph known None told.search).end
    pub entries : told.entries ≡ before ++ (part ++ Marked m p ∷ [])

  abbrev pub GoesOn : Search → Run → Type 0
  GoesOn s r = (before part : List Entry) (m : Mark) (p : ℕ) (rest : List Entry)
      → r.entries ≡ part ++ Marked m p ∷ rest
      → GoesOnAt (retold graph (record { search = s; entries = before }) (part ++ Marked m p ∷ [])) before r part m p
      rest

  stops : (s t : Search) (a : Ask) (e : End) → GoesOn s
      (with_entries (warnings (ask graph s).step.warned) (ended (end_entries a) t e))
  stops s t a e = λ before part m p rest h.
      let yes : has_mark (warnings (ask graph s).step.warned ++ end_entries a) ≡ true = ap has_mark h
      ∙ has_mark-there part m p rest in
      let no : has_mark (warnings (ask graph s).step.warned ++ end_entries a) ≡ false = has_mark-stop
      (ask graph s).step.warned a in
      cc

  -- behind the first mark the run goes on from the marked search
  here : (s : Search) (n : Mark) (q : ℕ) (before part : List Entry) (m : Mark) (p : ℕ) (rest : List Entry) (r : Run)
      → r.search ≡ (run graph known None (mark (ask graph s).search n q)).search
      → r.end ≡ (run graph known None (mark (ask graph s).search n q)).end
      → CutHere (ask graph s).step.warned n q (run graph known None (mark (ask graph s).search n q)).entries part m p
      rest
      → GoesOnAt (retold graph (record { search = s; entries = before }) (part ++ Marked m p ∷ [])) before r part m p
      rest
  unfolding retold
  here s n q before part m p rest r search end c = record {
    same_rest = sym c.1 ∙ ap (λ (t : LogState). (run graph known None t.search).entries) (sym e);
    search = search ∙ ap (λ (t : LogState). (run graph known None t.search).search) (sym e);
    end = end ∙ ap (λ (t : LogState). (run graph known None t.search).end) (sym e);
    entries = ap (λ (t : LogState). t.entries) e ∙ ap (λ (es : List Entry). before ++ es) (sym c.0);
  }
    where
      e : retold graph (record { search = s; entries = before }) (part ++ Marked m p ∷ []) ≡ marked_on graph
          (record { search = s; entries = before }) n q
      e = ap (λ (es : List Entry). retold graph (record { search = s; entries = before }) es) c.0
          ∙ retold_mark graph (record { search = s; entries = before }) (ask graph s).step.warned n q []

  later : (s : Search) (n : Mark) (q : ℕ) (before part : List Entry) (m : Mark) (p : ℕ) (rest : List Entry) (r : Run)
      → r.search ≡ (run graph known None (mark (ask graph s).search n q)).search
      → r.end ≡ (run graph known None (mark (ask graph s).search n q)).end
      → GoesOn (mark (ask graph s).search n q) (run graph known None (mark (ask graph s).search n q))
      → CutLater (ask graph s).step.warned n q (run graph known None (mark (ask graph s).search n q)).entries part m p
      rest
      → GoesOnAt (retold graph (record { search = s; entries = before }) (part ++ Marked m p ∷ [])) before r part m p
      rest
  later s n q before part m p rest r search end ih c = record {
    same_rest = i.same_rest ∙ ap (λ (t : LogState). (run graph known None t.search).entries) (sym e);
    search = search ∙ i.search ∙ ap (λ (t : LogState). (run graph known None t.search).search) (sym e);
    end = end ∙ i.end ∙ ap (λ (t : LogState). (run graph known None t.search).end) (sym e);
    entries = ap (λ (t : LogState). t.entries) e ∙ i.entries
        ∙ append_assoc before (warnings (ask graph s).step.warned ++ Marked n q ∷ []) (c.part ++ Marked m p ∷ [])
        ∙ ap (λ (es : List Entry). before ++ es) (append_assoc (warnings (ask graph s).step.warned) (Marked n q ∷ [])
        (c.part ++ Marked m p ∷ []) ∙ sym c.front);
  }
    where
      start : LogState
      start = marked_on graph (record { search = s; entries = before }) n q

      e : retold graph (record { search = s; entries = before }) (part ++ Marked m p ∷ []) ≡ retold graph start
          (c.part ++ Marked m p ∷ [])
      e = ap (λ (es : List Entry). retold graph (record { search = s; entries = before }) es) c.front
          ∙ retold_mark graph (record { search = s; entries = before }) (ask graph s).step.warned n q
          (c.part ++ Marked m p ∷ [])

      i : GoesOnAt (retold graph start (c.part ++ Marked m p ∷ []))
          (before ++ (warnings (ask graph s).step.warned ++ Marked n q ∷ []))
          (run graph known None (mark (ask graph s).search n q)) c.part m p rest
      i = ih (before ++ (warnings (ask graph s).step.warned ++ Marked n q ∷ [])) c.part m p rest c.back

  verdict_goes : (s : Search) (q : ℕ) (outcome : Outcome) (v : Verdict)
      → ((n : Mark) → GoesOn (mark (ask graph s).search n q) (run graph known None (mark (ask graph s).search n q)))
      → GoesOn s (with_entries (warnings (ask graph s).step.warned)
      (with_used q outcome (after_verdict (run graph known) None (ask graph s).search q outcome v)))
  verdict_goes s q outcome Abort ih = λ before part m p rest h.
      let i = stops s (ask graph s).search (Test q) (Aborted q outcome) before part m p rest h in
      record { same_rest = i.same_rest; search = i.search; end = i.end; entries = i.entries }
  verdict_goes s q outcome (MarkOf n) ih = λ before part m p rest h.
      ⊎_elim
      (λ c. here s n q before part m p rest _ refl refl c)
      (λ c. later s n q before part m p rest _ refl refl (ih n) c)
      (cut (ask graph s).step.warned n q (run graph known None (mark (ask graph s).search n q)).entries part m p rest
      h)

  look_goes : (s : Search) (q : ℕ) (o : Option Outcome)
      → ((n : Mark) → GoesOn (mark (ask graph s).search n q) (run graph known None (mark (ask graph s).search n q)))
      → GoesOn s (with_entries (warnings (ask graph s).step.warned)
      (after_look known (run graph known) None (ask graph s).search q o))
  look_goes s q None ih = stops s (ask graph s).search (Test q) (Open q)
  look_goes s q (Some outcome) ih = verdict_goes s q outcome (verdict_of outcome) ih

  step_goes : (s : Search) (a : Ask) → (ask graph s).step.ask ≡ a
      → ((q : ℕ) (n : Mark) → (ask graph s).step.ask ≡ Test q
      → GoesOn (mark (ask graph s).search n q) (run graph known None (mark (ask graph s).search n q)))
      → GoesOn s (with_entries (warnings (ask graph s).step.warned)
      (after_step known (run graph known) None (ask graph s).search a))
  step_goes s (Test q) h ih = look_goes s q (known q) (λ n. ih q n h)
  step_goes s (FirstBad p) h ih = stops s (ask graph s).search (FirstBad p) (Answered (FirstBad p))
  step_goes s (OnlySkipped ps) h ih = stops s (ask graph s).search (OnlySkipped ps) (Answered (OnlySkipped ps))
  step_goes s WaitBoth h ih = stops s (ask graph s).search WaitBoth (Answered WaitBoth)
  step_goes s WaitBad h ih = stops s (ask graph s).search WaitBad (Answered WaitBad)
  step_goes s WaitGood h ih = stops s (ask graph s).search WaitGood (Answered WaitGood)
  step_goes s (MergeBaseBad p) h ih = stops s (ask graph s).search (MergeBaseBad p) (Answered (MergeBaseBad p))
  step_goes s (GoodNotAncestor p) h ih = stops s (ask graph s).search (GoodNotAncestor p)
      (Answered (GoodNotAncestor p))
  step_goes s (BothSides p) h ih = stops s (ask graph s).search (BothSides p) (Answered (BothSides p))

  goes_as : (s : Search) (r whole : Run) → whole ≡ r → GoesOn s r → GoesOn s whole
  goes_as s r whole same h = λ before part m p rest is.
      let i = h before part m p rest (sym (ap (λ (x : Run). x.entries) same) ∙ is) in
      record {
        same_rest = i.same_rest;
        search = ap (λ (x : Run). x.search) same
            ∙ i.search;
        end = ap (λ (x : Run). x.end) same ∙ i.end;
        entries = i.entries;
      }

  within_goes : (n : ℕ) (s : Search) → IsSearchOver graph s → left_to_ask graph s < n
      → GoesOn s (run graph known None s)
  within_goes zero s over few = absurd (omega arith)
  within_goes (suc n) s over few =
      goes_as s (after_ask known (run graph known) None (ask graph s)) (run graph known None s)
      (run-is graph known None s g over)
      (step_goes s (ask graph s).step.ask refl (λ q m h. within_goes n (mark (ask graph s).search m q)
      (IsSearchOver-marked graph s m q g over h) (omega (arith, left_to_ask-falls graph s m q g over h))))

  -- A run goes on from what a part of its log tells that ends with a mark: with the rest of the entries, to the same
  -- end.
  pub run_goes_on : (s : Search) → IsSearchOver graph s → GoesOn s (run graph known None s)
  run_goes_on s over = within_goes (suc (length graph)) s over (omega (arith, left_to_ask-le graph s))
