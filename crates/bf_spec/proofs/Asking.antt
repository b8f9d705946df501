-- Walks to a place that some path asks for.
use Rattle.std.proofs.Common.{◌≡◌, ℕ, zero, suc, ◌<◌, ◌⊎◌, Bool, true, false, not, ◌&&◌, ◌==◌, cond, List, [], ◌∷◌, ◌++◌, length, get_or, replicate, Option, Some, None}
use Rattle.std.proofs.Common.{refl, sym, ap, ◌∙◌, subst, inl, inr, ⊎_elim, eqb-true, eq-eqb}
use Rattle.std.proofs.lemmas.Bool.{and_parts, not-true, both_ways}
use Rattle.std.proofs.lemmas.List.Elements.{Contains-get_or}
use Rattle.std.specs.Arc.{arc_value}
use Rattle.std.specs.List.{Contains}
use Rattle.bf_search.specs.declared.asks.Ask.{Ask}
use Rattle.bf_search.specs.declared.asks.Ask.TheVariants.{WaitBoth, WaitBad, WaitGood, Test, MergeBaseBad, GoodNotAncestor, BothSides, FirstBad, OnlySkipped}
use Rattle.bf_search.specs.declared.outcomes.Mark.{Mark}
use Rattle.bf_search.specs.declared.outcomes.Mark.TheVariants.{Good, Bad, Skip}
use Rattle.bf_search.specs.declared.outcomes.Outcome.{Outcome}
use Rattle.bf_search.specs.declared.outcomes.Verdict.{Verdict}
use Rattle.bf_search.specs.declared.outcomes.Verdict.TheVariants.{Mark as MarkOf, Abort}
use Rattle.bf_search.specs.Candidates.{is_in}
use Rattle.bf_search.specs.Guesses.{is_candidate_below, is_candidate_of, IsParted}
use Rattle.bf_search.specs.OpenPaths.{left_of, Allows, Leads}
use Rattle.bf_search.specs.Outcomes.{Outcomes, verdict_of}
use Rattle.bf_search.specs.Reach.{reaches}
use Rattle.bf_search.specs.State.{Search, Asked, ask, mark}
use Rattle.bf_search.proofs.CandidateLemmas.{is_in-candidate_row}
use Rattle.bf_state.specs.Way.{way}
use Rattle.bf_state.specs.Weighed.{row_below, mask_of}
use Rattle.bf_state.proofs.OnePath.{candidate_along, stays_checked}
use Rattle.bf_state.proofs.Parted.{guesses_part}
use Rattle.bf_state.proofs.Passing.{length-mask}
use Rattle.bf_state.proofs.Way.{goes_the_way}
use Rattle.bf_spec.specs.declared.asked.Way.{Way}
use Rattle.bf_spec.specs.declared.asked.Way.TheVariants.{Here, Nowhere, Goes, Guesses}
use Rattle.bf_spec.specs.declared.node.Node.{Node}
use Rattle.bf_spec.specs.Guessed.{next_asked}
use Rattle.bf_spec.specs.Nodes.{path_of, asked_of, AreNodes, Extends, left_at}
use Rattle.bf_spec.specs.Sights.{IsSight}
use Rattle.bf_spec.specs.Ways.{IsAsked, is_no_candidate, way_by_verdict, way_by_outcome, way_of, IsGuessTowards, GoesTowards}
use Rattle.bf_spec.proofs.Growing.{sight_of, extends_nodes, extends_has, extends_at, read_as}
use Rattle.bf_spec.proofs.Sights.{mask_asked}
use Rattle.bf_spec.proofs.Walking.{NodeFacts, node_facts, child_asks, child_search, IsChildAt, child_at_left}

-- ---- candidates

none_in : (n x : ℕ) → get_or (replicate n false) x false ≡ false
none_in zero x = refl
none_in (suc n) zero = refl
none_in (suc n) (suc x) = none_in n x

-- a place is in the row of the candidates where it is one
pub in_mask : (graph : List (List ℕ)) (s : Search) (x : ℕ) → x < length graph → is_in (mask_of graph s) x ≡ is_candidate_of graph s x
in_mask graph s x l = by_bad s.bad
  where
    by_bad : (o : Option ℕ) → is_in (row_below graph o s) x ≡ is_candidate_below graph o s x
    by_bad None = none_in (length graph) x
    by_bad (Some bad) = is_in-candidate_row graph bad s.goods s.first_parent x l

parted : (whole one other : Bool) → IsParted whole one other → one ≡ true → other ≡ true → ⊥
parted whole true true p h k = both_ways true p.apart refl
parted whole true false p h k = cc
parted whole false other p h k = cc

-- ---- the guess that leads on

module _ (graph : List (List ℕ)) (node : Node) (q x : ℕ) (f : NodeFacts graph node) (asks : node.step.ask ≡ Test q) where
  after : Search → Mark → Search
  after s m = mark s m q

  -- before the check has passed a bad guess ends the path
  pub unchecked_guess : node.state.search.checked ≡ false → IsGuessTowards graph node.state.search q x Good
  unchecked_guess c = (tt, λ known n ms left allows rest. (goes known n ms left allows rest) ∙ ap (λ (b : Bool). cond (b && reaches graph q x) Bad Good) c)
    where
      goes : (known : Outcomes) (n : Mark) (ms : List Mark) (left : ℕ) → Allows None n → Leads graph known (mark node.state.search n q) ms x left
          → n ≡ way graph node.state.search q x
      goes known n ms left allows rest =
          goes_the_way graph known node.state.search q n ms x left f.parents (f.settled.step ∙ asks) allows
          (subst (λ (t : Search). Leads graph known (mark t n q) ms x left) (sym f.settled.search) rest)
          ∙ ap (λ (t : Search). way graph t q x) f.settled.search

  -- after it, what is asked behind a guess is a candidate there
  candidate_behind : (known : Outcomes) (n : Mark) (ms : List Mark) (left : ℕ) → node.state.search.checked ≡ true
      → Leads graph known (mark node.state.search n q) ms x left → is_candidate_of graph (mark node.state.search n q) x ≡ true
  candidate_behind known n ms left c rest =
      candidate_along graph known (mark node.state.search n q) ms x left f.parents
      (subst (λ (t : Search). (mark t n q).checked ≡ true) f.settled.search
      (stays_checked graph node.state.search n q f.parents (f.settled.step ∙ asks) (ap (λ (t : Search). t.checked) f.settled.search ∙ c)))
      rest

  pub guess_bad : node.state.search.checked ≡ true → is_candidate_of graph (mark node.state.search Bad q) x ≡ true
      → IsGuessTowards graph node.state.search q x Bad
  guess_bad c below = (tt, λ known n ms left allows rest. by_mark n known ms left allows rest)
    where
      parts : IsParted (is_candidate_of graph node.state.search x) (is_candidate_of graph (mark node.state.search Good q) x)
          (is_candidate_of graph (mark node.state.search Bad q) x)
      parts = subst (λ (t : Search). IsParted (is_candidate_of graph node.state.search x) (is_candidate_of graph (mark t Good q) x)
          (is_candidate_of graph (mark t Bad q) x)) f.settled.search
          (guesses_part graph node.state.search q x f.parents (f.settled.step ∙ asks))

      by_mark : (n : Mark) (known : Outcomes) (ms : List Mark) (left : ℕ) → Allows None n → Leads graph known (mark node.state.search n q) ms x left → n ≡ Bad
      by_mark Bad known ms left allows rest = refl
      by_mark Good known ms left allows rest = absurd (parted _ _ _ parts (candidate_behind known Good ms left c rest) below)
      by_mark Skip known ms left allows rest = absurd allows

  pub guess_good : node.state.search.checked ≡ true → is_candidate_of graph (mark node.state.search Bad q) x ≡ false
      → IsGuessTowards graph node.state.search q x Good
  guess_good c below = (tt, λ known n ms left allows rest. by_mark n known ms left allows rest)
    where
      by_mark : (n : Mark) (known : Outcomes) (ms : List Mark) (left : ℕ) → Allows None n → Leads graph known (mark node.state.search n q) ms x left → n ≡ Good
      by_mark Good known ms left allows rest = refl
      by_mark Bad known ms left allows rest = absurd (both_ways _ below (candidate_behind known Bad ms left c rest))
      by_mark Skip known ms left allows rest = absurd allows

module _ (graph : List (List ℕ)) (known : Outcomes) (x : ℕ) where
  -- the marks lead on from a search that has asked
  abbrev LeadsOn : Search → Ask → List Mark → ℕ → Type 0
  LeadsOn s a [] left = (a ≡ Test x) × (left ≡ left_of graph s)
  LeadsOn s a (m ∷ ms) left = (q : ℕ) × (a ≡ Test q) × Allows (known q) m × Leads graph known (mark s m q) ms x left

  to_asked : (s : Search) (ms : List Mark) (left : ℕ) → Leads graph known s ms x left → LeadsOn (ask graph s).search (ask graph s).step.ask ms left
  to_asked s [] left h = h
  to_asked s (m ∷ ms) left h = h

  from_asked : (s : Search) (ms : List Mark) (left : ℕ) → LeadsOn (ask graph s).search (ask graph s).step.ask ms left → Leads graph known s ms x left
  from_asked s [] left h = h
  from_asked s (m ∷ ms) left h = h

  -- from a node, which has asked
  to_node : (node : Node) (ms : List Mark) (left : ℕ) → NodeFacts graph node → Leads graph known node.state.search ms x left
      → LeadsOn node.state.search node.step.ask ms left
  to_node node ms left f h =
      subst (λ (a : Ask). LeadsOn node.state.search a ms left) f.settled.step
      (subst (λ (t : Search). LeadsOn t (ask graph node.state.search).step.ask ms left) f.settled.search (to_asked node.state.search ms left h))

  from_node : (node : Node) (ms : List Mark) (left : ℕ) → NodeFacts graph node → LeadsOn node.state.search node.step.ask ms left
      → Leads graph known node.state.search ms x left
  from_node node ms left f h =
      from_asked node.state.search ms left
      (subst (λ (t : Search). LeadsOn t (ask graph node.state.search).step.ask ms left) (sym f.settled.search)
      (subst (λ (a : Ask). LeadsOn node.state.search a ms left) (sym f.settled.step) h))

  -- from a child
  to_child : (parent child : Node) (m : Mark) (q : ℕ) (ms : List Mark) (left : ℕ) → NodeFacts graph child
      → asked_of child ≡ next_asked graph (asked_of parent) m → parent.step.ask ≡ Test q
      → Leads graph known (mark parent.state.search m q) ms x left → Leads graph known child.state.search ms x left
  to_child parent child m q ms left f is asks h =
      from_node child ms left f (subst (λ (a : Asked). LeadsOn a.search a.step.ask ms left) (sym here) (to_asked (mark parent.state.search m q) ms left h))
    where
      here : asked_of child ≡ ask graph (mark parent.state.search m q)
      here = is ∙ ap (λ (a : Ask). next_asked graph (record { search = parent.state.search; step = record { warned = parent.step.warned; ask = a } }) m) asks

  from_child : (parent child : Node) (m : Mark) (q : ℕ) (ms : List Mark) (left : ℕ) → NodeFacts graph child
      → asked_of child ≡ next_asked graph (asked_of parent) m → parent.step.ask ≡ Test q
      → Leads graph known child.state.search ms x left → Leads graph known (mark parent.state.search m q) ms x left
  from_child parent child m q ms left f is asks h =
      from_asked (mark parent.state.search m q) ms left (subst (λ (a : Asked). LeadsOn a.search a.step.ask ms left) here (to_node child ms left f h))
    where
      here : asked_of child ≡ ask graph (mark parent.state.search m q)
      here = is ∙ ap (λ (a : Ask). next_asked graph (record { search = parent.state.search; step = record { warned = parent.step.warned; ask = a } }) m) asks

  -- ---- what a way says

  same_place : (p q : ℕ) → Test p ≡ Test q → p ≡ q
  same_place p q e = cc

  no_test : (s : Search) (a : Ask) → ((q : ℕ) → a ≡ Test q → ⊥) → (ms : List Mark) (left : ℕ) → LeadsOn s a ms left → ⊥
  no_test s a none [] left h = none x h.0
  no_test s a none (m ∷ ms) left h = none h.0 h.1

  -- an abort ends each path
  aborts : (s : Search) (q : ℕ) (outcome : Outcome) → (q ≡ x → ⊥) → known q ≡ Some outcome → verdict_of outcome ≡ Abort
      → (ms : List Mark) (left : ℕ) → LeadsOn s (Test q) ms left → ⊥
  aborts s q outcome other o is [] left h = other (same_place q x h.0)
  aborts s q outcome other o is (m ∷ ms) left h = no_mark (sym is ∙ allows)
    where
      allows : verdict_of outcome ≡ MarkOf m
      allows = subst (λ (y : Option Outcome). Allows y m) (ap known (sym (same_place q h.0 h.1)) ∙ o) h.2

      no_mark : Abort ≡ MarkOf m → ⊥
      no_mark e = cc

  abbrev Tells : Node → Ask → Way → Type 0
  Tells node a Here = a ≡ Test x
  Tells node a Nowhere = (is_no_candidate node x ≡ true) ⊎ ((ms : List Mark) (left : ℕ) → LeadsOn node.state.search a ms left → ⊥)
  Tells node a (Goes q m) = (a ≡ Test q) × (q ≡ x → ⊥) × (outcome : Outcome) × (known q ≡ Some outcome) × (verdict_of outcome ≡ MarkOf m)
  Tells node a (Guesses q) = (a ≡ Test q) × (q ≡ x → ⊥) × (known q ≡ None)

  pub tells : (node : Node) (a : Ask) → Tells node a (way_of known node a x)
  tells node (Test q) = by_test (q == x) refl
    where
      by_verdict : (outcome : Outcome) (v : Verdict) → verdict_of outcome ≡ v → known q ≡ Some outcome → (q ≡ x → ⊥) → Tells node (Test q) (way_by_verdict q v)
      by_verdict outcome Abort is o other = inr (aborts node.state.search q outcome other o is)
      by_verdict outcome (MarkOf m) is o other = (refl, other, outcome, o, is)

      by_outcome : (o : Option Outcome) → known q ≡ o → (q ≡ x → ⊥) → Tells node (Test q) (way_by_outcome q o)
      by_outcome None o other = (refl, other, o)
      by_outcome (Some outcome) o other = by_verdict outcome (verdict_of outcome) refl o other

      by_candidate : (b : Bool) → is_no_candidate node x ≡ b → (q ≡ x → ⊥) → Tells node (Test q) (cond b Nowhere (way_by_outcome q (known q)))
      by_candidate true e other = inl e
      by_candidate false e other = by_outcome (known q) refl other

      by_test : (b : Bool) → (q == x) ≡ b → Tells node (Test q) (cond b Here (cond (is_no_candidate node x) Nowhere (way_by_outcome q (known q))))
      by_test true e = ap (λ (p : ℕ). Test p) (eqb-true q x e)
      by_test false e = by_candidate (is_no_candidate node x) refl (λ r. both_ways (q == x) e (eq-eqb q x r))
  tells node (FirstBad p) = inr (no_test node.state.search (FirstBad p) (λ q e. cc))
  tells node (OnlySkipped ps) = inr (no_test node.state.search (OnlySkipped ps) (λ q e. cc))
  tells node WaitBoth = inr (no_test node.state.search WaitBoth (λ q e. cc))
  tells node WaitBad = inr (no_test node.state.search WaitBad (λ q e. cc))
  tells node WaitGood = inr (no_test node.state.search WaitGood (λ q e. cc))
  tells node (MergeBaseBad p) = inr (no_test node.state.search (MergeBaseBad p) (λ q e. cc))
  tells node (GoodNotAncestor p) = inr (no_test node.state.search (GoodNotAncestor p) (λ q e. cc))
  tells node (BothSides p) = inr (no_test node.state.search (BothSides p) (λ q e. cc))

  -- ---- at a node

  pub asked_here : (node : Node) → NodeFacts graph node → node.step.ask ≡ Test x → IsAsked graph known node.state.search x
  asked_here node f asks = ([], left_of graph node.state.search, from_node node [] (left_of graph node.state.search) f (asks, refl))

  -- a place that is no candidate is not asked for after the check
  none_asked : (node : Node) → NodeFacts graph node → IsSight graph node.state.search node.sight → x < length graph → is_no_candidate node x ≡ true
      → IsAsked graph known node.state.search x → ⊥
  none_asked node f sight within out asked =
      let parts = and_parts node.state.search.checked (not (is_in (arc_value node.sight.mask) x)) out in
      both_ways (is_in (arc_value node.sight.mask) x) (not-true _ parts.1)
      (ap (λ (row : List Bool). is_in row x) sight.mask ∙ in_mask graph node.state.search x within
      ∙ candidate_along graph known node.state.search asked.0 x asked.1 f.parents parts.0 asked.2)

  pub asked_nowhere : (node : Node) → NodeFacts graph node → IsSight graph node.state.search node.sight → x < length graph
      → Tells node node.step.ask Nowhere → IsAsked graph known node.state.search x → ⊥
  asked_nowhere node f sight within told asked =
      ⊎_elim
      (λ out. none_asked node f sight within out asked)
      (λ ends. ends asked.0 asked.1 (to_node node asked.0 asked.1 f asked.2))
      told

  -- each path to x that goes on from a node goes by this mark of another place
  pub record GoesBy (s : Search) (a : Ask) (q : ℕ) (m : Mark) : Type 0 where
    pub asks : a ≡ Test q
    pub other : q ≡ x → ⊥
    pub allows : Allows (known q) m
    pub only : (n : Mark) (ms : List Mark) (left : ℕ) → Allows (known q) n → Leads graph known (mark s n q) ms x left → n ≡ m

  pub goes_known : (node : Node) (q : ℕ) (m : Mark) → Tells node node.step.ask (Goes q m) → GoesBy node.state.search node.step.ask q m
  goes_known node q m told = record {
    asks = told.0;
    other = told.1;
    allows = subst (λ (o : Option Outcome). Allows o m) (sym told.3) told.4;
    only = λ n ms left allows rest. same n (sym (subst (λ (o : Option Outcome). Allows o n) told.3 allows) ∙ told.4);
  }
    where
      same : (n : Mark) → MarkOf n ≡ MarkOf m → n ≡ m
      same n e = cc

  pub goes_guessed : (node : Node) (q : ℕ) (m : Mark) → Tells node node.step.ask (Guesses q) → IsGuessTowards graph node.state.search q x m
      → GoesBy node.state.search node.step.ask q m
  goes_guessed node q m told guess = record {
    asks = told.0;
    other = told.1;
    allows = subst (λ (o : Option Outcome). Allows o m) (sym told.2) guess.0;
    only = λ n ms left allows rest. guess.1 known n ms left (subst (λ (o : Option Outcome). Allows o n) told.2 allows) rest;
  }

  module _ (node child : Node) (q : ℕ) (m : Mark) (f : NodeFacts graph node) (k : NodeFacts graph child)
      (is : asked_of child ≡ next_asked graph (asked_of node) m) (by : GoesBy node.state.search node.step.ask q m) where
    pub asked_below : IsAsked graph known node.state.search x → IsAsked graph known child.state.search x
    asked_below asked = by_marks asked.0 (to_node node asked.0 asked.1 f asked.2)
      where
        by_marks : (ms : List Mark) → LeadsOn node.state.search node.step.ask ms asked.1 → IsAsked graph known child.state.search x
        by_marks [] on = absurd (by.other (same_place q x (sym by.asks ∙ on.0)))
        by_marks (n ∷ ms) on =
            let same : q ≡ on.0 = same_place q on.0 (sym by.asks ∙ on.1) in
            let rest : Leads graph known (mark node.state.search n q) ms x asked.1 = subst
            (λ (r : ℕ). Leads graph known (mark node.state.search n r) ms x asked.1) (sym same) on.3 in
            let allows : Allows (known q) n = subst (λ (r : ℕ). Allows (known r) n) (sym same) on.2 in
            let mark_is : n ≡ m = by.only n ms asked.1 allows rest in (
              ms,
              asked.1,
              to_child node child m q ms asked.1 k is by.asks
                  (subst (λ (j : Mark). Leads graph known (mark node.state.search j q) ms x asked.1) mark_is rest),
            )

    pub asked_above : IsAsked graph known child.state.search x → IsAsked graph known node.state.search x
    asked_above asked = (
      m ∷ asked.0,
      asked.1,
      from_node node (m ∷ asked.0) asked.1 f
          (q, by.asks, by.allows, from_child node child m q asked.0 asked.1 k is by.asks asked.2),
    )

-- ---- by index

module _ (graph : List (List ℕ)) (known : Outcomes) (x : ℕ) (nodes : List Node) (i : ℕ) (node : Node) (t : AreNodes graph nodes) (l : i < length nodes)
    (e : node ≡ get_or nodes i node) where
  facts : NodeFacts graph node
  facts = node_facts graph nodes node t (i, l, sym e)

  seen : IsSight graph node.state.search node.sight
  seen = sight_of graph nodes node t (i, l, sym e)

  -- the row of its candidates has a truth value for each place
  pub mask_within : x < length graph → x < length (arc_value node.sight.mask)
  mask_within within = subst (λ (n : ℕ). x < n) (sym (length-mask graph node.state.search (arc_value node.sight.mask) seen.mask)) within

  told : (w : Way) → w ≡ way_of known node node.step.ask x → Tells graph known x node node.step.ask w
  told w h = subst (λ (v : Way). Tells graph known x node node.step.ask v) (sym h) (tells graph known x node node.step.ask)

  pub walk_here : (d : Node) → Here ≡ way_of known node node.step.ask x → IsAsked graph known (get_or nodes i d).state.search x
  walk_here d h = subst (λ (n : Node). IsAsked graph known n.state.search x) (sym (read_as nodes i node d l e))
      (asked_here graph known x node facts (told Here h))

  pub walk_nowhere : (d : Node) → x < length graph → Nowhere ≡ way_of known node node.step.ask x → IsAsked graph known (get_or nodes i d).state.search x → ⊥
  walk_nowhere d within h asked = asked_nowhere graph known x node facts seen within (told Nowhere h)
      (subst (λ (n : Node). IsAsked graph known n.state.search x) (read_as nodes i node d l e) asked)

  pub by_known : (q : ℕ) (m : Mark) → Goes q m ≡ way_of known node node.step.ask x → GoesBy graph known x node.state.search node.step.ask q m
  by_known q m h = goes_known graph known x node q m (told (Goes q m) h)

  pub by_guess : (q : ℕ) (m : Mark) → Guesses q ≡ way_of known node node.step.ask x
      → ((d : Node) → IsGuessTowards graph (get_or nodes i d).state.search q x m) → GoesBy graph known x node.state.search node.step.ask q m
  by_guess q m h guess = goes_guessed graph known x node q m (told (Guesses q) h)
      (subst (λ (n : Node). IsGuessTowards graph n.state.search q x m) (sym e) (guess node))

  pub known_asks : (d : Node) (q : ℕ) (m : Mark) → Goes q m ≡ way_of known node node.step.ask x → (get_or nodes i d).step.ask ≡ Test q
  known_asks d q m h = ap (λ (n : Node). n.step.ask) (read_as nodes i node d l e) ∙ (told (Goes q m) h).0

  pub guess_asks : (d : Node) (q : ℕ) → Guesses q ≡ way_of known node node.step.ask x → (get_or nodes i d).step.ask ≡ Test q
  guess_asks d q h = ap (λ (n : Node). n.step.ask) (read_as nodes i node d l e) ∙ (told (Guesses q) h).0

  module _ (new : List Node) (k p : ℕ) (m : Mark) (by : GoesBy graph known x node.state.search node.step.ask p m) (grown : Extends graph nodes new)
      (child : (k < length new) × ((d : Node) → path_of (get_or new k d) ≡ path_of (get_or nodes i d) ++ m ∷ [])) where
    at : IsChildAt graph nodes new i k m
    at = record { above = l; below = child.0; extends = grown; path = child.1 }

    pub walk_less : left_at graph new k < left_at graph nodes i
    walk_less = child_at_left graph nodes new i k m t at p node (ap (λ (n : Node). n.step.ask) (sym e) ∙ by.asks)

    all : AreNodes graph new
    all = extends_nodes graph nodes new grown t

    node_in : Contains new node
    node_in = extends_has graph nodes new node grown (i, l, sym e)

    child_in : (d : Node) → Contains new (get_or new k d)
    child_in d = Contains-get_or new k d child.0

    follows : (d : Node) → asked_of (get_or new k d) ≡ next_asked graph (asked_of node) m
    follows d = child_asks graph new node (get_or new k d) m all node_in (child_in d)
        (child.1 d ∙ ap (λ (n : Node). path_of n ++ m ∷ []) (read_as nodes i node d l e))

    pub walk_below : (d : Node) → IsAsked graph known (get_or nodes i d).state.search x → IsAsked graph known (get_or new k d).state.search x
    walk_below d asked =
        asked_below graph known x node (get_or new k d) p m facts (node_facts graph new (get_or new k d) all (child_in d)) (follows d) by
        (subst (λ (n : Node). IsAsked graph known n.state.search x) (read_as nodes i node d l e) asked)

    pub walk_above : (d : Node) → IsAsked graph known (get_or new k d).state.search x → IsAsked graph known (get_or nodes i d).state.search x
    walk_above d asked =
        subst (λ (n : Node). IsAsked graph known n.state.search x) (sym (read_as nodes i node d l e))
        (asked_above graph known x node (get_or new k d) p m facts (node_facts graph new (get_or new k d) all (child_in d)) (follows d) by asked)

-- ---- the child that was chosen

module _ (graph : List (List ℕ)) (nodes : List Node) (i q x : ℕ) (t : AreNodes graph nodes) (l : i < length nodes)
    (asks : (d : Node) → (get_or nodes i d).step.ask ≡ Test q) where
  facts_at : (d : Node) → NodeFacts graph (get_or nodes i d)
  facts_at d = node_facts graph nodes (get_or nodes i d) t (Contains-get_or nodes i d l)

  read_checked : (node : Node) (b : Bool) → node ≡ get_or nodes i node → node.state.search.checked ≡ b → (d : Node)
      → (get_or nodes i d).state.search.checked ≡ b
  read_checked node b e c d = ap (λ (n : Node). n.state.search.checked) (read_as nodes i node d l e) ∙ c

  -- before the check has passed it is the good one
  pub towards_unchecked : (new : List Node) (k : ℕ) (node : Node) → node ≡ get_or nodes i node → node.state.search.checked ≡ false
      → (k < length new) × ((d : Node) → path_of (get_or new k d) ≡ path_of (get_or nodes i d) ++ Good ∷ [])
      → GoesTowards graph nodes i q x new k
  towards_unchecked new k node e c child = (
    Good,
    child,
    λ d. unchecked_guess graph (get_or nodes i d) q x (facts_at d) (asks d) (read_checked node false e c d),
  )

  module _ (one : List Node) (b : ℕ) (grown : Extends graph nodes one)
      (bad : (b < length one) × ((d : Node) → path_of (get_or one b d) ≡ path_of (get_or nodes i d) ++ Bad ∷ [])) where
    bad_nodes : AreNodes graph one
    bad_nodes = extends_nodes graph nodes one grown t

    -- what the row of the bad child says of the mark
    below_bad : (seen : Node) (d : Node) → x < length graph → seen ≡ get_or one b seen
        → is_candidate_of graph (mark (get_or nodes i d).state.search Bad q) x ≡ is_in (arc_value seen.sight.mask) x
    below_bad seen d within e =
        sym (in_mask graph (mark (get_or nodes i d).state.search Bad q) x within)
        ∙ ap (λ (row : List Bool). is_in row x)
        (sym (mask_asked graph (mark (get_or nodes i d).state.search Bad q))
        ∙ ap (λ (s : Search). mask_of graph s) (sym (child_search graph (get_or nodes i d) seen Bad q follows (asks d)))
        ∙ sym (sight_of graph one seen bad_nodes (b, bad.0, sym e)).mask)
      where
        follows : asked_of seen ≡ next_asked graph (asked_of (get_or nodes i d)) Bad
        follows = child_asks graph one (get_or nodes i d) seen Bad bad_nodes (extends_has graph nodes one (get_or nodes i d) grown (Contains-get_or nodes i d l))
            (b, bad.0, sym e) (ap path_of (sym (read_as one b seen d bad.0 e)) ∙ bad.1 d)

    -- it has a truth value for each place
    pub bad_within : (seen : Node) → x < length graph → seen ≡ get_or one b seen → x < length (arc_value seen.sight.mask)
    bad_within seen within e = subst (λ (n : ℕ). x < n)
        (sym (length-mask graph seen.state.search (arc_value seen.sight.mask) (sight_of graph one seen bad_nodes (b, bad.0, sym e)).mask)) within

    pub towards_bad : (node seen : Node) → node ≡ get_or nodes i node → node.state.search.checked ≡ true → x < length graph → seen ≡ get_or one b seen
        → is_in (arc_value seen.sight.mask) x ≡ true → GoesTowards graph nodes i q x one b
    towards_bad node seen e c within s has = (
      Bad,
      bad,
      λ d. guess_bad graph (get_or nodes i d) q x (facts_at d) (asks d) (read_checked node true e c d) (below_bad seen d within s ∙ has),
    )

    -- after the bad child has come, the good one follows the same node
    pub towards_good : (two : List Node) (k : ℕ) (node seen : Node) → node ≡ get_or nodes i node → node.state.search.checked ≡ true → x < length graph
        → seen ≡ get_or one b seen → is_in (arc_value seen.sight.mask) x ≡ false
        → (k < length two) × ((d : Node) → path_of (get_or two k d) ≡ path_of (get_or one i d) ++ Good ∷ [])
        → GoesTowards graph nodes i q x two k
    towards_good two k node seen e c within s has child = (
      Good,
      (child.0, λ d. child.1 d ∙ ap (λ (n : Node). path_of n ++ Good ∷ []) (extends_at graph nodes one i d grown l)),
      λ d. guess_good graph (get_or nodes i d) q x (facts_at d) (asks d) (read_checked node true e c d) (below_bad seen d within s ∙ has),
    )

    pub good_asks : (d : Node) → (get_or one i d).step.ask ≡ Test q
    good_asks d = ap (λ (n : Node). n.step.ask) (extends_at graph nodes one i d grown l) ∙ asks d
