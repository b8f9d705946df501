-- Runs through the nodes of a tree.
use Rattle.std.proofs.Common.{◌≡◌, ℕ, zero, suc, ◌<◌, Bool, true, false, ◌==◌, cond, List, [], ◌∷◌, ◌++◌, length, get_or, map, Option, Some, None, refl, sym}
use Rattle.std.proofs.Common.{ap, ◌∙◌, subst, append_assoc}
use Rattle.std.proofs.lemmas.List.Elements.{All-contains, Contains-get_or}
use Rattle.std.specs.List.{Contains}
use Rattle.bf_graph.specs.Graph.{IsGraph}
use Rattle.bf_search.specs.declared.asks.Ask.{Ask}
use Rattle.bf_search.specs.declared.asks.Ask.TheVariants.{WaitBoth, WaitBad, WaitGood, Test, MergeBaseBad, GoodNotAncestor, BothSides, FirstBad, OnlySkipped}
use Rattle.bf_search.specs.declared.asks.Check.{Check}
use Rattle.bf_search.specs.declared.asks.Check.TheVariants.{Passed, Bad as BaseIsBad, Test as TestBase}
use Rattle.bf_search.specs.declared.entries.Entry.{Entry}
use Rattle.bf_search.specs.declared.entries.Entry.TheVariants.{Start, Marked, SkippedBase, FirstBadFound, OnlySkippedLeft}
use Rattle.bf_search.specs.declared.outcomes.Mark.{Mark}
use Rattle.bf_search.specs.declared.outcomes.Outcome.{Outcome}
use Rattle.bf_search.specs.declared.outcomes.Verdict.{Verdict}
use Rattle.bf_search.specs.declared.outcomes.Verdict.TheVariants.{Mark as MarkOf, Abort}
use Rattle.bf_search.specs.Bases.{check}
use Rattle.bf_search.specs.Candidates.{candidates}
use Rattle.bf_search.specs.Outcomes.{Outcomes, verdict_of}
use Rattle.bf_search.specs.Run.{Answered, Leg, Open, Aborted, Run, ended, with_entries, with_used, marked_one, after_verdict, after_look, after_step, after_ask}
use Rattle.bf_search.specs.Run.{turn, run}
use Rattle.bf_search.specs.State.{Search, Asked, IsSearchOver, ask_best, ask_among, best_of, ask_candidates, ask_checked, ask, mark}
use Rattle.bf_search.proofs.Turns.{run-is}
use Rattle.bf_state.proofs.Asks.{known_ends}
use Rattle.bf_spec.specs.declared.follow.Halt.TheVariants as halts
use Rattle.bf_spec.specs.declared.follow.Next.{Next}
use Rattle.bf_spec.specs.declared.follow.Next.TheVariants as nexts
use Rattle.bf_spec.specs.declared.node.Node.{Node}
use Rattle.bf_state.specs.Ends.{HasEnds}
use Rattle.bf_spec.specs.Guessed.{next_asked}
use Rattle.bf_spec.specs.Nodes.{path_of, asked_of, IsNode, AreNodes, Extends, left_at}
use Rattle.bf_state.specs.Ends.{marks_of}
use Rattle.bf_spec.specs.Walks.{next_by_verdict, next_by_outcome, next_of, IsAnswer, answer_entries, is_over, run_below, LeadsInto, HaltsAt}
use Rattle.bf_spec.proofs.Growing.{extends_nodes, extends_has, extends_length, extends_at, read_as}
use Rattle.bf_spec.proofs.Walking.{NodeFacts, node_facts, marked_over, child_asks, IsChildAt, child_at_left}

-- ---- a search with both ends does not wait for one

abbrev NoWait : Ask → Type 0
NoWait WaitBoth = ⊥
NoWait WaitBad = ⊥
NoWait WaitGood = ⊥
NoWait other = Unit {0}

no_wait_best : (s : Search) (warned ps : List ℕ) (chosen : Option ℕ) → NoWait (ask_best s warned ps chosen).step.ask
no_wait_best s warned ps None = tt
no_wait_best s warned ps (Some p) = tt

no_wait_among : (s : Search) (bad : ℕ) (warned ps : List ℕ) (chosen : Option ℕ) → NoWait (ask_among s bad warned ps chosen).step.ask
no_wait_among s bad warned [] chosen = tt
no_wait_among s bad warned (p ∷ []) chosen = by_test (p == bad)
  where
    by_test : (b : Bool) → NoWait (cond b (Rattle.bf_search.specs.State.without_test s warned (FirstBad bad)) (ask_best s warned (p ∷ []) chosen)).step.ask
    by_test true = tt
    by_test false = no_wait_best s warned (p ∷ []) chosen
no_wait_among s bad warned (p ∷ q ∷ ps) chosen = no_wait_best s warned (p ∷ q ∷ ps) chosen

no_wait_checked : (graph : List (List ℕ)) (s : Search) (bad : ℕ) (c : Check) → NoWait (ask_checked graph s bad c).step.ask
no_wait_checked graph s bad (TestBase p) = tt
no_wait_checked graph s bad (BaseIsBad p) = by_test s.bad_asked
  where
    by_test : (b : Bool) → NoWait (cond b (MergeBaseBad p) (GoodNotAncestor p))
    by_test true = tt
    by_test false = tt
no_wait_checked graph s bad (Passed warned) = no_wait_among (record s { checked = true }) bad warned (candidates graph bad s.goods s.first_parent)
    (best_of graph (record s { checked = true }) bad)

no_wait_ask : (graph : List (List ℕ)) (s : Search) → HasEnds s → NoWait (ask graph s).step.ask
no_wait_ask graph s h = subst (λ (a : Asked). NoWait a.step.ask) (sym (known_ends graph s h.bad h.bad_is h.some_good)) (by_check s.checked h.bad)
  where
    by_check : (b : Bool) (bad : ℕ) → NoWait (cond b (ask_candidates graph s bad []) (ask_checked graph s bad (check graph bad s.goods s.skips))).step.ask
    by_check true bad = no_wait_among s bad [] (candidates graph bad s.goods s.first_parent) (best_of graph s bad)
    by_check false bad = no_wait_checked graph s bad (check graph bad s.goods s.skips)

no_wait_node : (graph : List (List ℕ)) (nodes : List Node) (node : Node) → AreNodes graph nodes → Contains nodes node → NoWait node.step.ask
no_wait_node graph nodes node t among =
    let here : IsNode graph t.session t.root node = All-contains (IsNode graph t.session t.root) nodes node t.tree.each among in
    subst (λ (a : Ask). NoWait a) (node_facts graph nodes node t among).settled.step (no_wait_ask graph node.state.search here.ends)

-- ---- what follows an ask, and what the run does there

module _ (known : Outcomes) (go : Option ℕ → Search → Run) (left : Option ℕ) (s : Search) where
  abbrev Rest : Ask → Run
  Rest a = after_step known go left s a

  abbrev NextTells : Next → Ask → Type 0
  NextTells nexts.Answered a = NoWait a → IsAnswer a × (Rest a ≡ ended (answer_entries a) s (Answered a))
  NextTells nexts.Waits a = (p : ℕ) × (a ≡ Test p) × (Rest a ≡ ended [] s (Open p))
  NextTells (nexts.Aborted p outcome) a = LeadsInto [] (ended [] s (Aborted p outcome)) (Rest a)
  NextTells (nexts.Marked p m) a = (a ≡ Test p) × LeadsInto (Marked m p ∷ []) (go (marked_one left) (mark s m p)) (Rest a)

  next_tells : (a : Ask) → NextTells (next_of known a) a
  next_tells (Test p) = by_outcome (known p) refl
    where
      looked : (outcome : Outcome) (v : Verdict) → verdict_of outcome ≡ v → known p ≡ Some outcome
          → Rest (Test p) ≡ with_used p outcome (after_verdict go left s p outcome v)
      looked outcome v e o = ap (λ (x : Option Outcome). after_look known go left s p x) o ∙ ap
          (λ (v : Verdict). with_used p outcome (after_verdict go left s p outcome v)) e

      by_verdict : (outcome : Outcome) (v : Verdict) → verdict_of outcome ≡ v → known p ≡ Some outcome → NextTells (next_by_verdict p outcome v) (Test p)
      by_verdict outcome Abort e o = subst (λ (r : Run). LeadsInto [] (ended [] s (Aborted p outcome)) r) (sym (looked outcome Abort e o))
          (record { entries = refl; search = refl; end = refl })
      by_verdict outcome (MarkOf m) e o = (
        refl,
        subst (λ (r : Run). LeadsInto (Marked m p ∷ []) (go (marked_one left) (mark s m p)) r) (sym (looked outcome (MarkOf m) e o))
            (record { entries = refl; search = refl; end = refl }),
      )

      by_outcome : (o : Option Outcome) → known p ≡ o → NextTells (next_by_outcome p o) (Test p)
      by_outcome None o = (p, refl, ap (λ (x : Option Outcome). after_look known go left s p x) o)
      by_outcome (Some outcome) o = by_verdict outcome (verdict_of outcome) refl o
  next_tells (FirstBad p) = λ w. (tt, refl)
  next_tells (OnlySkipped ps) = λ w. (tt, refl)
  next_tells WaitBoth = λ w. absurd w
  next_tells WaitBad = λ w. absurd w
  next_tells WaitGood = λ w. absurd w
  next_tells (MergeBaseBad p) = λ w. (tt, refl)
  next_tells (GoodNotAncestor p) = λ w. (tt, refl)
  next_tells (BothSides p) = λ w. (tt, refl)

  pub tells : (a : Ask) (next : Next) → next ≡ next_of known a → NextTells next a
  tells a next h = subst (λ (n : Next). NextTells n a) (sym h) (next_tells a)

-- ---- runs that lead into others

-- a run leads into another one, and that into a third
leads_on : (es fs : List Entry) (r s t : Run) → LeadsInto es r t → LeadsInto fs s r → LeadsInto (es ++ fs) s t
leads_on es fs r s t h k = record {
  entries = h.entries ∙ ap (λ (xs : List Entry). es ++ xs) k.entries ∙ sym (append_assoc es fs s.entries);
  search = h.search ∙ k.search;
  end = h.end ∙ k.end;
}

-- other names of the same
pub leads_as : (es fs : List Entry) (r s t : Run) → es ≡ fs → r ≡ s → LeadsInto es r t → LeadsInto fs s t
leads_as es fs r s t e h k = subst (λ (x : Run). LeadsInto fs x t) h (subst (λ (xs : List Entry). LeadsInto xs r t) e k)

marks_append : (es fs : List Entry) → marks_of (es ++ fs) ≡ marks_of es ++ marks_of fs
marks_append [] fs = refl
marks_append (Start a b c d ∷ es) fs = marks_append es fs
marks_append (Marked m p ∷ es) fs = ap (λ (ms : List Mark). m ∷ ms) (marks_append es fs)
marks_append (SkippedBase p ∷ es) fs = marks_append es fs
marks_append (FirstBadFound p ∷ es) fs = marks_append es fs
marks_append (OnlySkippedLeft ps ∷ es) fs = marks_append es fs

marks_warned : (ps : List ℕ) → marks_of (map (λ p. SkippedBase p) ps) ≡ []
marks_warned [] = refl
marks_warned (p ∷ ps) = marks_warned ps

pub append_nil : {X : Type 0} (xs : List X) → xs ++ [] ≡ xs
append_nil [] = refl
append_nil (x ∷ xs) = ap (λ ys. x ∷ ys) (append_nil xs)

pub marks_marked : (es : List Entry) (m : Mark) (p : ℕ) → marks_of (es ++ Marked m p ∷ []) ≡ marks_of es ++ m ∷ []
marks_marked es m p = marks_append es (Marked m p ∷ [])

pub marks_after : (es : List Entry) (ps : List ℕ) → marks_of (es ++ map (λ p. SkippedBase p) ps) ≡ marks_of es
marks_after es ps = marks_append es (map (λ p. SkippedBase p) ps) ∙ ap (λ (ms : List Mark). marks_of es ++ ms) (marks_warned ps) ∙ append_nil (marks_of es)

pub marks_answer : (es : List Entry) (a : Ask) → marks_of (es ++ answer_entries a) ≡ marks_of es
marks_answer es a = marks_append es (answer_entries a) ∙ ap (λ (ms : List Mark). marks_of es ++ ms) (none a) ∙ append_nil (marks_of es)
  where
    none : (b : Ask) → marks_of (answer_entries b) ≡ []
    none (Test p) = refl
    none (FirstBad p) = refl
    none (OnlySkipped ps) = refl
    none WaitBoth = refl
    none WaitBad = refl
    none WaitGood = refl
    none (MergeBaseBad p) = refl
    none (GoodNotAncestor p) = refl
    none (BothSides p) = refl

-- ---- a leg

turn_over : (graph : List (List ℕ)) (known : Outcomes) (go : Option ℕ → Search → Run) (left : Option ℕ) (s : Search) → is_over left ≡ true
    → turn graph known go left s ≡ ended [] s Leg
turn_over graph known go None s h = cc
turn_over graph known go (Some zero) s h = refl
turn_over graph known go (Some (suc k)) s h = cc

turn_on : (graph : List (List ℕ)) (known : Outcomes) (go : Option ℕ → Search → Run) (left : Option ℕ) (s : Search) → is_over left ≡ false
    → turn graph known go left s ≡ after_ask known go left (ask graph s)
turn_on graph known go None s h = refl
turn_on graph known go (Some zero) s h = cc
turn_on graph known go (Some (suc k)) s h = refl

pub run_over : (graph : List (List ℕ)) (known : Outcomes) (left : Option ℕ) (s : Search) → IsGraph graph → IsSearchOver graph s → is_over left ≡ true
    → run graph known left s ≡ ended [] s Leg
run_over graph known left s g over h = run-is graph known left s g over ∙ turn_over graph known (run graph known) left s h

pub run_on : (graph : List (List ℕ)) (known : Outcomes) (left : Option ℕ) (s : Search) → IsGraph graph → IsSearchOver graph s → is_over left ≡ false
    → run graph known left s ≡ after_ask known (run graph known) left (ask graph s)
run_on graph known left s g over h = run-is graph known left s g over ∙ turn_on graph known (run graph known) left s h

-- the run from a node is the one below it
pub run_node : (graph : List (List ℕ)) (known : Outcomes) (left : Option ℕ) (node : Node) → NodeFacts graph node
    → (ask graph node.state.search).step.warned ≡ [] → is_over left ≡ false → run graph known left node.state.search ≡ run_below graph known left node
run_node graph known left node f warned h =
    run_on graph known left node.state.search f.parents f.over h
    ∙ ap (λ (ps : List ℕ). with_entries (map (λ p. SkippedBase p) ps)
    (after_step known (run graph known) left (ask graph node.state.search).search (ask graph node.state.search).step.ask)) warned
    ∙ ap (λ (t : Search). after_step known (run graph known) left t (ask graph node.state.search).step.ask) f.settled.search
    ∙ ap (λ (a : Ask). after_step known (run graph known) left node.state.search a) f.settled.step

-- ---- one step of the walk

module _ (graph : List (List ℕ)) (known : Outcomes) (left : Option ℕ) (nodes : List Node) (i : ℕ) (node : Node) (t : AreNodes graph nodes)
    (l : i < length nodes) (e : node ≡ get_or nodes i node) where
  facts : NodeFacts graph node
  facts = node_facts graph nodes node t (i, l, sym e)

  pub same_at : (d b : Node) → get_or nodes i d ≡ get_or nodes i b
  same_at d b = read_as nodes i node d l e ∙ sym (read_as nodes i node b l e)

  -- what was made so far leads from a run into the one below the node
  module _ (whole : Run) (es : List Entry) (d : Node) (so_far : LeadsInto es (run_below graph known left (get_or nodes i d)) whole)
      (path : (b : Node) → path_of (get_or nodes i b) ≡ marks_of es) where
    -- the run that is left at the node, where it is another one by its name
    at_node : (b : Node) (of : Node → Run) → run_below graph known left node ≡ of node → LeadsInto es (of (get_or nodes i b)) whole
    at_node b of h =
        leads_as es es (run_below graph known left (get_or nodes i d)) (of (get_or nodes i b)) whole refl
        (ap (λ (n : Node). run_below graph known left n) (read_as nodes i node d l e) ∙ h ∙ ap of (sym (read_as nodes i node b l e))) so_far

    -- a fact of the node where it is read with another one past the end
    read : (b : Node) (P : Node → Type 0) → P node → P (get_or nodes i b)
    read b P h = subst P (sym (read_as nodes i node b l e)) h

    pub halts_answered : nexts.Answered ≡ next_of known node.step.ask → HaltsAt nodes es (halts.Answered i) whole
    halts_answered h =
        let told = tells known (run graph known) left node.state.search node.step.ask nexts.Answered h (no_wait_node graph nodes node t (i, l, sym e)) in (
          l,
          λ b. (
            read b (λ n. IsAnswer n.step.ask) told.0,
            at_node b (λ n. ended (answer_entries n.step.ask) n.state.search (Answered n.step.ask)) told.1,
            path b,
          ),
        )

    pub halts_waits : nexts.Waits ≡ next_of known node.step.ask → HaltsAt nodes es (halts.Waits i) whole
    halts_waits h =
        let told = tells known (run graph known) left node.state.search node.step.ask nexts.Waits h in (
          l,
          λ b. (
            told.0,
            read b (λ n. n.step.ask ≡ Test told.0) told.1,
            at_node b (λ n. ended [] n.state.search (Open told.0)) told.2,
            path b,
          ),
        )

    pub halts_aborted : (p : ℕ) (outcome : Outcome) → nexts.Aborted p outcome ≡ next_of known node.step.ask
        → HaltsAt nodes es (halts.Aborted i p outcome) whole
    halts_aborted p outcome h =
        let told = tells known (run graph known) left node.state.search node.step.ask (nexts.Aborted p outcome) h in
        let here : LeadsInto es (run_below graph known left node) whole = at_node node (λ n. run_below graph known left node) refl in (
          l,
          λ b. (
            leads_as (es ++ []) es (ended [] node.state.search (Aborted p outcome)) (ended [] (get_or nodes i b).state.search (Aborted p outcome)) whole
                (append_nil es) (ap (λ (n : Node). ended [] n.state.search (Aborted p outcome)) (sym (read_as nodes i node b l e)))
                (leads_on es [] (run_below graph known left node) (ended [] node.state.search (Aborted p outcome)) whole here told),
            path b,
          ),
        )

  module _ (p : ℕ) (m : Mark) (h : nexts.Marked p m ≡ next_of known node.step.ask) where
    told : (node.step.ask ≡ Test p)
        × LeadsInto (Marked m p ∷ []) (run graph known (marked_one left) (mark node.state.search m p)) (run_below graph known left node)
    told = tells known (run graph known) left node.state.search node.step.ask (nexts.Marked p m) h

    pub marked_asks : (d : Node) → (get_or nodes i d).step.ask ≡ Test p
    marked_asks d = ap (λ (n : Node). n.step.ask) (read_as nodes i node d l e) ∙ told.0

    over : IsSearchOver graph (mark node.state.search m p)
    over = marked_over graph node m p facts told.0

    module _ (new : List Node) (k : ℕ) (grown : Extends graph nodes new)
        (child : (k < length new) × ((d : Node) → path_of (get_or new k d) ≡ path_of (get_or nodes i d) ++ m ∷ [])) where
      at : IsChildAt graph nodes new i k m
      at = record { above = l; below = child.0; extends = grown; path = child.1 }

      pub step_less : left_at graph new k < left_at graph nodes i
      step_less = child_at_left graph nodes new i k m t at p node (marked_asks node)

      all : AreNodes graph new
      all = extends_nodes graph nodes new grown t

      follows : (d : Node) → asked_of (get_or new k d) ≡ ask graph (mark node.state.search m p)
      follows d =
          child_asks graph new node (get_or new k d) m all (extends_has graph nodes new node grown (i, l, sym e)) (Contains-get_or new k d child.0)
          (child.1 d ∙ ap (λ (n : Node). path_of n ++ m ∷ []) (read_as nodes i node d l e))
          ∙ ap (λ (a : Ask). next_asked graph (record { search = node.state.search; step = record { warned = node.step.warned; ask = a } }) m) told.0

      module _ (whole : Run) (es : List Entry) (d : Node) (so_far : LeadsInto es (run_below graph known left (get_or nodes i d)) whole) where
        -- the run behind the mark
        step_is : LeadsInto (es ++ Marked m p ∷ []) (run graph known (marked_one left) (mark node.state.search m p)) whole
        step_is =
            leads_on es (Marked m p ∷ []) (run_below graph known left (get_or nodes i d)) (run graph known (marked_one left) (mark node.state.search m p))
            whole so_far
            (subst (λ (n : Node). LeadsInto (Marked m p ∷ []) (run graph known (marked_one left) (mark node.state.search m p)) (run_below graph known left n))
            (sym (read_as nodes i node d l e)) told.1)

        pub step_over : ((b : Node) → path_of (get_or nodes i b) ≡ marks_of es) → is_over (marked_one left) ≡ true
            → HaltsAt new (es ++ Marked m p ∷ []) (halts.Over i k m p) whole
        step_over path o = (
          extends_length graph nodes new i grown l,
          child.0,
          λ b. (
            leads_as (es ++ Marked m p ∷ []) (es ++ Marked m p ∷ []) (run graph known (marked_one left) (mark node.state.search m p))
                (ended [] (mark (get_or new i b).state.search m p) Leg) whole refl
                (run_over graph known (marked_one left) (mark node.state.search m p) facts.parents over o
                ∙ ap (λ (n : Node). ended [] (mark n.state.search m p) Leg) (sym (extends_at graph nodes new i b grown l ∙ read_as nodes i node b l e)))
                step_is,
            child.1 b ∙ ap (λ (ms : List Mark). ms ++ m ∷ []) (path b) ∙ sym (marks_marked es m p),
            ap (λ (n : Node). n.step.ask) (extends_at graph nodes new i b grown l) ∙ marked_asks b,
            child.1 b ∙ ap (λ (n : Node). path_of n ++ m ∷ []) (sym (extends_at graph nodes new i b grown l)),
          ),
        )

        pub step_on : (c b : Node) → is_over (marked_one left) ≡ false → c ≡ get_or new k c
            → LeadsInto ((es ++ Marked m p ∷ []) ++ map (λ q. SkippedBase q) c.step.warned) (run_below graph known (marked_one left) (get_or new k b)) whole
        step_on c b o is =
            leads_on (es ++ Marked m p ∷ []) (map (λ q. SkippedBase q) c.step.warned) (run graph known (marked_one left) (mark node.state.search m p))
            (run_below graph known (marked_one left) (get_or new k b)) whole step_is
            (subst (λ (r : Run). LeadsInto (map (λ q. SkippedBase q) c.step.warned) (run_below graph known (marked_one left) (get_or new k b)) r)
            (sym (run_on graph known (marked_one left) (mark node.state.search m p) facts.parents over o ∙ ap
            (λ (a : Asked). after_ask known (run graph known) (marked_one left) a) (sym (follows b))))
            (record {
              entries = ap (λ (n : Node). map (λ q. SkippedBase q) n.step.warned ++ (run_below graph known (marked_one left) (get_or new k b)).entries)
                  (read_as new k c b child.0 is);
              search = refl;
              end = refl;
            }))
