-- Walks through a tree.
use Rattle.std.proofs.Common.{◌≡◌, ℕ, zero, suc, ◌+◌, ◌<◌, ◌≤◌, Bool, true, false, ◌&&◌, ◌||◌, ◌==◌, cond, List, [], ◌∷◌, ◌++◌, length, get_or, Option, Some}
use Rattle.std.proofs.Common.{None, refl, sym, ap, ◌∙◌, subst, ⊎_elim, arith, append_assoc, length-append}
use Rattle.std.proofs.lemmas.Bool.{cases_Bool, ltb-true, ltb-false, lt-ltb, le-ltb}
use Rattle.std.proofs.lemmas.List.Elements.{All-contains, Contains-append_left, Contains-get_or}
use Rattle.std.proofs.lemmas.Option.{slice_get-get_or}
use Rattle.std.specs.Prelude.{nat_lt}
use Rattle.std.proofs.Common.{map, replicate}
use Rattle.std.proofs.lemmas.List.Sums.{sum_by-cons}
use Rattle.std.specs.List.{Contains, count_by}
use Rattle.bf_graph.specs.Graph.{IsGraph}
use Rattle.bf_search.specs.declared.asks.Ask.{Ask}
use Rattle.bf_search.specs.declared.asks.Ask.TheVariants.{WaitBoth, WaitBad, WaitGood, Test, MergeBaseBad, GoodNotAncestor, BothSides, FirstBad, OnlySkipped}
use Rattle.bf_search.specs.declared.outcomes.Mark.{Mark}
use Rattle.bf_search.specs.declared.outcomes.Mark.TheVariants.{Good, Bad}
use Rattle.bf_search.specs.declared.outcomes.Outcome.{Outcome}
use Rattle.bf_search.specs.declared.outcomes.Verdict.{Verdict}
use Rattle.bf_search.specs.declared.outcomes.Verdict.TheVariants.{Mark as MarkOf, Abort}
use Rattle.bf_search.specs.Outcomes.{Outcomes, verdict_of}
use Rattle.bf_search.specs.State.{Search, Asked, IsSearchOver, ask, mark}
use Rattle.bf_search.proofs.Turns.{left_to_ask-falls, IsSearchOver-marked}
use Rattle.bf_search.specs.LeftToAsk.{left_to_ask}
use Rattle.bf_state.specs.Session.{IsSearchBelow}
use Rattle.bf_state.proofs.AskAgain.{ask_again}
use Rattle.bf_state.proofs.Asks.{ask_leaves}
use Rattle.bf_search.specs.declared.farm.Claim.{Claim}
use Rattle.bf_search.specs.Reach.{places}
use Rattle.bf_search.specs.Candidates.{is_candidate, candidate_row}
use Rattle.bf_search.specs.Guesses.{is_candidate_below}
use Rattle.bf_search.specs.OpenPaths.{OpenPath, left_of, is_claimed, is_better, better, followed_by, after_verdict, after_look, after_step, path_turn}
use Rattle.bf_search.specs.OpenPaths.{best_open}
use Rattle.bf_state.proofs.Turns.{best_open-is}
use Rattle.bf_spec.specs.declared.node.Node.{Node}
use Rattle.bf_spec.specs.declared.walk.Found.{Found}
use Rattle.bf_spec.specs.declared.walk.Look.{Look}
use Rattle.bf_spec.specs.declared.walk.Look.TheVariants.{Ended, Free, Known, Guess}
use Rattle.std.specs.Arc.{arc_value}
use Rattle.bf_state.specs.Weighed.{row_below, mask_of}
use Rattle.bf_spec.specs.Guessed.{marked_by, next_asked, asked_at, IsSettled, prefixed, look_of, look_of_outcome, look_of_verdict}
use Rattle.bf_spec.specs.Nodes.{path_of, asked_of, IsNode, AreNodes, Extends, left_below, left_at, best_at, IsFound, path_wins, better_path}
use Rattle.bf_spec.proofs.Growing.{asked_at-append, settled_at, extends_nodes, extends_length, extends_at, extends_has, extends_trans, read_as}

-- ---- what a look says of the recursion

module _ (graph : List (List ℕ)) (known : Outcomes) (claims : List Claim) (go : Search → Option OpenPath) (u : Search) where
  step_ended : (a : Ask) → look_of known claims a ≡ Ended → after_step graph known claims go u a ≡ None
  step_ended (Test p) h = by_outcome (known p) h
    where
      by_claim : (b : Bool) → cond b (Guess p) (Free p) ≡ Ended → ⊥
      by_claim true e = cc
      by_claim false e = cc

      by_verdict : (v : Verdict) → look_of_verdict p v ≡ Ended → after_verdict go u p v ≡ None
      by_verdict Abort e = refl
      by_verdict (MarkOf m) e = cc

      by_outcome : (o : Option Outcome) → look_of_outcome claims p o ≡ Ended → after_look graph claims go u p o ≡ None
      by_outcome None e = absurd (by_claim (is_claimed claims p) e)
      by_outcome (Some outcome) e = by_verdict (verdict_of outcome) e
  step_ended (FirstBad p) h = refl
  step_ended (OnlySkipped ps) h = refl
  step_ended WaitBoth h = refl
  step_ended WaitBad h = refl
  step_ended WaitGood h = refl
  step_ended (MergeBaseBad p) h = refl
  step_ended (GoodNotAncestor p) h = refl
  step_ended (BothSides p) h = refl

  -- a look that does not end: the ask, and what the recursion gives
  abbrev Tells : Look → Ask → Type 0
  Tells Ended a = Unit {0}
  Tells (Free p) a = (a ≡ Test p) × (after_step graph known claims go u a ≡ Some (record { marks = []; place = p; left = left_of graph u }))
  Tells (Known p m) a = (a ≡ Test p) × (after_step graph known claims go u a ≡ followed_by m (go (mark u m p)))
  Tells (Guess p) a = (a ≡ Test p) × (after_step graph known claims go u a ≡ better (followed_by Good (go (mark u Good p)))
      (followed_by Bad (go (mark u Bad p))))

  step_tells : (a : Ask) → Tells (look_of known claims a) a
  step_tells (Test p) = by_outcome (known p) refl
    where
      by_claim : (b : Bool) → is_claimed claims p ≡ b → known p ≡ None → Tells (cond b (Guess p) (Free p)) (Test p)
      by_claim true e n = (
        refl,
        ap (λ (o : Option Outcome). after_look graph claims go u p o) n ∙ ap
            (λ (b : Bool). Rattle.bf_search.specs.OpenPaths.after_claim graph go u p b) e,
      )
      by_claim false e n = (
        refl,
        ap (λ (o : Option Outcome). after_look graph claims go u p o) n ∙ ap
            (λ (b : Bool). Rattle.bf_search.specs.OpenPaths.after_claim graph go u p b) e,
      )

      by_verdict : (outcome : Outcome) (v : Verdict) → verdict_of outcome ≡ v → known p ≡ Some outcome → Tells (look_of_verdict p v) (Test p)
      by_verdict outcome Abort e n = tt
      by_verdict outcome (MarkOf m) e n = (
        refl,
        ap (λ (o : Option Outcome). after_look graph claims go u p o) n ∙ ap (λ (v : Verdict). after_verdict go u p v)
            e,
      )

      by_outcome : (o : Option Outcome) → known p ≡ o → Tells (look_of_outcome claims p o) (Test p)
      by_outcome None n = by_claim (is_claimed claims p) refl n
      by_outcome (Some outcome) n = by_verdict outcome (verdict_of outcome) refl n
  step_tells (FirstBad p) = tt
  step_tells (OnlySkipped ps) = tt
  step_tells WaitBoth = tt
  step_tells WaitBad = tt
  step_tells WaitGood = tt
  step_tells (MergeBaseBad p) = tt
  step_tells (GoodNotAncestor p) = tt
  step_tells (BothSides p) = tt

-- ---- nodes of a tree

over_below : (graph : List (List ℕ)) (s : Search) → IsSearchBelow (length graph) s → IsSearchOver graph s
over_below graph s b = record { bad = b.bad; goods = b.goods; skips = b.skips; expected = b.expected }

pub record NodeFacts (graph : List (List ℕ)) (node : Node) : Type 0 where
  pub parents : IsGraph graph
  pub settled : IsSettled graph (asked_of node)
  pub over : IsSearchOver graph node.state.search

pub node_facts : (graph : List (List ℕ)) (nodes : List Node) (node : Node) → AreNodes graph nodes → Contains nodes node → NodeFacts graph node
node_facts graph nodes node t among =
    let here : IsNode graph t.session t.root node = All-contains (IsNode graph t.session t.root) nodes node t.tree.each among in
    record {
      parents = t.tree.parents;
      settled = subst (λ (a : Asked). IsSettled graph a) (sym here.asked) (settled_at graph t.root (path_of node) t.tree.settled);
      over = over_below graph node.state.search here.below;
    }

-- a node one mark further has asked what is asked there
pub child_asks : (graph : List (List ℕ)) (nodes : List Node) (parent child : Node) (m : Mark) → AreNodes graph nodes → Contains nodes parent
    → Contains nodes child → path_of child ≡ path_of parent ++ m ∷ []
    → asked_of child ≡ next_asked graph (asked_of parent) m
child_asks graph nodes parent child m t above below is =
    let one : IsNode graph t.session t.root parent = All-contains (IsNode graph t.session t.root) nodes parent t.tree.each above in
    let other : IsNode graph t.session t.root child = All-contains (IsNode graph t.session t.root) nodes child t.tree.each below in
    other.asked ∙ ap (λ (p : List Mark). asked_at graph t.root p) is ∙ asked_at-append graph t.root (path_of parent) (m ∷ []) ∙ ap
    (λ (a : Asked). next_asked graph a m) (sym one.asked)

pub child_search : (graph : List (List ℕ)) (parent child : Node) (m : Mark) (p : ℕ) → asked_of child ≡ next_asked graph (asked_of parent) m
    → parent.step.ask ≡ Test p → child.state.search ≡ (ask graph (mark parent.state.search m p)).search
child_search graph parent child m p h asks = ap (λ (a : Asked). a.search) h ∙ ap (λ (a : Ask). (ask graph (marked_by parent.state.search m a)).search) asks

-- an ask leaves as many places to ask
left-asked : (graph : List (List ℕ)) (s : Search) → left_to_ask graph (ask graph s).search ≡ left_to_ask graph s
left-asked graph s = ap (λ (t : Search). left_to_ask graph t) (ask_leaves graph s)

-- from the asked search the recursion gives the same
best_asked : (graph : List (List ℕ)) (known : Outcomes) (claims : List Claim) (s : Search) → IsGraph graph → IsSearchOver graph s
    → IsSearchOver graph (ask graph s).search → best_open graph known claims s ≡ best_open graph known claims (ask graph s).search
best_asked graph known claims s g over asked =
    best_open-is graph known claims s g over
    ∙ sym (ap (λ (a : Asked). after_step graph known claims (best_open graph known claims) a.search a.step.ask) (ask_again graph s))
    ∙ sym (best_open-is graph known claims (ask graph s).search g asked)

pub marked_over : (graph : List (List ℕ)) (parent : Node) (m : Mark) (p : ℕ) → NodeFacts graph parent → parent.step.ask ≡ Test p
    → IsSearchOver graph (mark parent.state.search m p)
marked_over graph parent m p f asks = subst (λ (t : Search). IsSearchOver graph (mark t m p)) f.settled.search
    (IsSearchOver-marked graph parent.state.search m p f.parents f.over (f.settled.step ∙ asks))

-- fewer places are left to ask below a child
pub child_left : (graph : List (List ℕ)) (parent child : Node) (m : Mark) (p : ℕ) → NodeFacts graph parent
    → asked_of child ≡ next_asked graph (asked_of parent) m → parent.step.ask ≡ Test p
    → left_to_ask graph child.state.search < left_to_ask graph parent.state.search
child_left graph parent child m p f h asks =
    let falls = left_to_ask-falls graph parent.state.search m p f.parents f.over (f.settled.step ∙ asks) in
    let same = ap (λ (t : Search). left_to_ask graph (mark t m p)) f.settled.search in
    let here = ap (λ (t : Search). left_to_ask graph t) (child_search graph parent child m p h asks) ∙ left-asked graph (mark parent.state.search m p) in
    omega (arith, falls, same, here)

-- the recursion at the marked search is that at the child
best_child : (graph : List (List ℕ)) (known : Outcomes) (claims : List Claim) (parent child : Node) (m : Mark) (p : ℕ) → NodeFacts graph parent
    → NodeFacts graph child → asked_of child ≡ next_asked graph (asked_of parent) m → parent.step.ask ≡ Test p
    → best_open graph known claims (mark parent.state.search m p) ≡ best_open graph known claims child.state.search
best_child graph known claims parent child m p f k h asks =
    let is : child.state.search ≡ (ask graph (mark parent.state.search m p)).search = child_search graph parent child m p h asks in
    best_asked graph known claims (mark parent.state.search m p) f.parents (marked_over graph parent m p f asks)
    (subst (λ (t : Search). IsSearchOver graph t) is k.over)
    ∙ ap (λ (t : Search). best_open graph known claims t) (sym is)

best_by_step : (graph : List (List ℕ)) (known : Outcomes) (claims : List Claim) (node : Node) → NodeFacts graph node
    → best_open graph known claims node.state.search ≡ after_step graph known claims (best_open graph known claims) node.state.search node.step.ask
best_by_step graph known claims node f =
    best_open-is graph known claims node.state.search f.parents f.over
    ∙ ap (λ (t : Search). after_step graph known claims (best_open graph known claims) t (ask graph node.state.search).step.ask) f.settled.search
    ∙ ap (λ (a : Ask). after_step graph known claims (best_open graph known claims) node.state.search a) f.settled.step

prefixed_further : (path : List Mark) (m : Mark) (x : Option OpenPath) → prefixed path (followed_by m x) ≡ prefixed (path ++ m ∷ []) x
prefixed_further path m None = refl
prefixed_further path m (Some x) = ap (λ (ms : List Mark). Some (record x { marks = ms })) (sym (append_assoc path (m ∷ []) x.marks))

module _ (graph : List (List ℕ)) (known : Outcomes) (claims : List Claim) where
  abbrev Here : Look → Node → Type 0
  Here look node = Tells graph known claims (best_open graph known claims) node.state.search look node.step.ask

  here : (node : Node) (look : Look) → look_of known claims node.step.ask ≡ look → Here look node
  here node look h = subst (λ (l : Look). Here l node) h (step_tells graph known claims (best_open graph known claims) node.state.search node.step.ask)

  pub best_ended : (node : Node) → NodeFacts graph node → look_of known claims node.step.ask ≡ Ended → best_at graph known claims node ≡ None
  best_ended node f h = ap (λ (x : Option OpenPath). prefixed (path_of node) x)
      (best_by_step graph known claims node f ∙ step_ended graph known claims (best_open graph known claims) node.state.search node.step.ask h)

  pub best_free : (node : Node) (p : ℕ) → NodeFacts graph node → look_of known claims node.step.ask ≡ Free p
      → best_at graph known claims node ≡ Some (record { marks = path_of node; place = p; left = left_of graph node.state.search })
  best_free node p f h =
      ap (λ (x : Option OpenPath). prefixed (path_of node) x) (best_by_step graph known claims node f ∙ (here node (Free p) h).1)
      ∙ ap (λ (ms : List Mark). Some (record { marks = ms; place = p; left = left_of graph node.state.search })) (append_nil (path_of node))
    where
      append_nil : (xs : List Mark) → xs ++ [] ≡ xs
      append_nil [] = refl
      append_nil (x ∷ xs) = ap (λ ys. x ∷ ys) (append_nil xs)

  pub asks_known : (node : Node) (p : ℕ) (m : Mark) → look_of known claims node.step.ask ≡ Known p m → node.step.ask ≡ Test p
  asks_known node p m h = (here node (Known p m) h).0

  pub asks_guess : (node : Node) (p : ℕ) → look_of known claims node.step.ask ≡ Guess p → node.step.ask ≡ Test p
  asks_guess node p h = (here node (Guess p) h).0

  pub best_known : (nodes : List Node) (node child : Node) (p : ℕ) (m : Mark) → AreNodes graph nodes → Contains nodes node → Contains nodes child
      → path_of child ≡ path_of node ++ m ∷ []
      → look_of known claims node.step.ask ≡ Known p m → best_at graph known claims node ≡ best_at graph known claims child
  best_known nodes node child p m t above below is h =
      let f : NodeFacts graph node = node_facts graph nodes node t above in
      let k : NodeFacts graph child = node_facts graph nodes child t below in
      ap (λ (x : Option OpenPath). prefixed (path_of node) x)
      (best_by_step graph known claims node f ∙ (here node (Known p m) h).1
      ∙ ap (λ (x : Option OpenPath). followed_by m x)
      (best_child graph known claims node child m p f k (child_asks graph nodes node child m t above below is) (asks_known node p m h)))
      ∙ prefixed_further (path_of node) m (best_open graph known claims child.state.search)
      ∙ ap (λ (ms : List Mark). prefixed ms (best_open graph known claims child.state.search)) (sym is)

  pub best_guess : (nodes : List Node) (node good bad : Node) (p : ℕ) → AreNodes graph nodes → Contains nodes node → Contains nodes good → Contains nodes bad
      → path_of good ≡ path_of node ++ Good ∷ [] → path_of bad ≡ path_of node ++ Bad ∷ []
      → look_of known claims node.step.ask ≡ Guess p
      → best_at graph known claims node ≡ prefixed (path_of node)
      (better (followed_by Good (best_open graph known claims good.state.search)) (followed_by Bad (best_open graph known claims bad.state.search)))
  best_guess nodes node good bad p t above one other good_is bad_is h =
      let f : NodeFacts graph node = node_facts graph nodes node t above in
      ap (λ (x : Option OpenPath). prefixed (path_of node) x)
      (best_by_step graph known claims node f ∙ (here node (Guess p) h).1
      ∙ ap (λ (x : Option OpenPath). better (followed_by Good x) (followed_by Bad (best_open graph known claims (mark node.state.search Bad p))))
      (best_child graph known claims node good Good p f (node_facts graph nodes good t one) (child_asks graph nodes node good Good t above one good_is)
      (asks_guess node p h))
      ∙ ap (λ (x : Option OpenPath). better (followed_by Good (best_open graph known claims good.state.search)) (followed_by Bad x))
      (best_child graph known claims node bad Bad p f (node_facts graph nodes bad t other) (child_asks graph nodes node bad Bad t above other bad_is)
      (asks_guess node p h)))

-- ---- the better one

same_test : (a b c d : ℕ) → (a < b → c < d) → (b ≤ a → d ≤ c) → nat_lt a b ≡ nat_lt c d
same_test a b c d h k =
    ⊎_elim
    (λ yes. yes ∙ sym (lt-ltb c d (h (ltb-true a b yes))))
    (λ fails. fails ∙ sym (le-ltb c d (k (ltb-false a b fails))))
    (cases_Bool (nat_lt a b))

drops_last : (x y z w : Bool) → (x || (y && (z || (w && false)))) ≡ (x || (y && z))
drops_last true y z w = refl
drops_last false false z w = refl
drops_last false true true w = refl
drops_last false true false true = refl
drops_last false true false false = refl

pub found_kept : (nodes : List Node) (more : List Node) (found : Option Found) (best : Option OpenPath) → IsFound nodes found best
    → IsFound (nodes ++ more) found best
found_kept nodes more None None h = tt
found_kept nodes more None (Some path) h = absurd h
found_kept nodes more (Some found) None h = absurd h
found_kept nodes more (Some found) (Some path) h =
    (h.0, h.1, h.2, record { node = h.3.node; among = Contains-append_left nodes more h.3.node h.3.among; has = h.3.has })

-- of two paths behind the guesses, the good one comes first where neither wins
better_guess : (path : List Mark) (good bad : Option OpenPath) → prefixed path (better (followed_by Good good) (followed_by Bad bad))
    ≡ better_path (prefixed (path ++ Good ∷ []) good) (prefixed (path ++ Bad ∷ []) bad)
better_guess path None bad = prefixed_further path Bad bad
better_guess path (Some x) None = prefixed_further path Good (Some x)
better_guess path (Some x) (Some y) =
    ap (λ (b : Bool). prefixed path (cond b (Some (record y { marks = Bad ∷ y.marks })) (Some (record x { marks = Good ∷ x.marks })))) same
    ∙ by_test (path_wins (record y { marks = (path ++ Bad ∷ []) ++ y.marks }) (record x { marks = (path ++ Good ∷ []) ++ x.marks }))
  where
    shorter : nat_lt (suc (length y.marks)) (suc (length x.marks)) ≡ nat_lt (length ((path ++ Bad ∷ []) ++ y.marks)) (length ((path ++ Good ∷ []) ++ x.marks))
    shorter = same_test (suc (length y.marks)) (suc (length x.marks)) (length ((path ++ Bad ∷ []) ++ y.marks)) (length ((path ++ Good ∷ []) ++ x.marks))
        (λ l. omega (
          arith,
          l,
          length-append (path ++ Good ∷ []) x.marks,
          length-append path (Good ∷ []),
          length-append (path ++ Bad ∷ []) y.marks,
          length-append path (Bad ∷ []),
        ))
        (λ l. omega (
          arith,
          l,
          length-append (path ++ Good ∷ []) x.marks,
          length-append path (Good ∷ []),
          length-append (path ++ Bad ∷ []) y.marks,
          length-append path (Bad ∷ []),
        ))

    same : is_better (record y { marks = Bad ∷ y.marks }) (record x { marks = Good ∷ x.marks })
        ≡ path_wins (record y { marks = (path ++ Bad ∷ []) ++ y.marks }) (record x { marks = (path ++ Good ∷ []) ++ x.marks })
    same =
        drops_last (nat_lt x.left y.left) (y.left == x.left) (nat_lt (suc (length y.marks)) (suc (length x.marks)))
        (suc (length y.marks) == suc (length x.marks))
        ∙ ap (λ (b : Bool). nat_lt x.left y.left || ((y.left == x.left) && b)) shorter

    by_test : (b : Bool) → prefixed path (cond b (Some (record y { marks = Bad ∷ y.marks })) (Some (record x { marks = Good ∷ x.marks })))
        ≡ cond b (Some (record y { marks = (path ++ Bad ∷ []) ++ y.marks })) (Some (record x { marks = (path ++ Good ∷ []) ++ x.marks }))
    by_test true = prefixed_further path Bad (Some y)
    by_test false = prefixed_further path Good (Some x)

-- ---- by index

left_at-is : (graph : List (List ℕ)) (nodes : List Node) (k : ℕ) (d : Node) → k < length nodes
    → left_at graph nodes k ≡ left_to_ask graph (get_or nodes k d).state.search
left_at-is graph nodes k d l = ap (λ (x : Option Node). left_below graph x) (slice_get-get_or nodes k d l)

pub left_at-extends : (graph : List (List ℕ)) (one two : List Node) (k : ℕ) (d : Node) → Extends graph one two → k < length one
    → left_at graph two k ≡ left_at graph one k
left_at-extends graph one two k d e l =
    left_at-is graph two k d (extends_length graph one two k e l) ∙ ap (λ (n : Node). left_to_ask graph n.state.search) (extends_at graph one two k d e l) ∙ sym
    (left_at-is graph one k d l)

-- some node of a list that has one
pub first_of : (nodes : List Node) (k : ℕ) → k < length nodes → Node
first_of [] k l = absurd (omega arith)
first_of (node ∷ nodes) k l = node

-- a child at its index, after the nodes have grown
pub record IsChildAt (graph : List (List ℕ)) (nodes new : List Node) (i k : ℕ) (m : Mark) : Type 0 where
  pub above : i < length nodes
  pub below : k < length new
  pub extends : Extends graph nodes new
  pub path : (d : Node) → path_of (get_or new k d) ≡ path_of (get_or nodes i d) ++ m ∷ []

module _ (graph : List (List ℕ)) (nodes new : List Node) (i k : ℕ) (m : Mark) (t : AreNodes graph nodes) (c : IsChildAt graph nodes new i k m) where
  parent_in : (d : Node) → Contains new (get_or nodes i d)
  parent_in d = extends_has graph nodes new (get_or nodes i d) c.extends (Contains-get_or nodes i d c.above)

  child_in : (d : Node) → Contains new (get_or new k d)
  child_in d = Contains-get_or new k d c.below

  pub child_at_left : (p : ℕ) (d : Node) → (get_or nodes i d).step.ask ≡ Test p → left_at graph new k < left_at graph nodes i
  child_at_left p d asks =
      let all : AreNodes graph new = extends_nodes graph nodes new c.extends t in
      let less = child_left graph (get_or nodes i d) (get_or new k d) m p (node_facts graph new (get_or nodes i d) all (parent_in d))
      (child_asks graph new (get_or nodes i d) (get_or new k d) m all (parent_in d) (child_in d) (c.path d)) asks in
      omega (arith, less, left_at-is graph nodes i d c.above, left_at-is graph new k d c.below)

  pub child_at_best : (known : Outcomes) (claims : List Claim) (p : ℕ) (d : Node) → look_of known claims (get_or nodes i d).step.ask ≡ Known p m
      → best_at graph known claims (get_or nodes i d) ≡ best_at graph known claims (get_or new k d)
  child_at_best known claims p d look =
      best_known graph known claims new (get_or nodes i d) (get_or new k d) p m (extends_nodes graph nodes new c.extends t) (parent_in d) (child_in d)
      (c.path d) look

-- the best open path at a guess is that below one of the two guesses
pub best_below : (graph : List (List ℕ)) (known : Outcomes) (claims : List Claim) (one two three : List Node) (i k j p : ℕ) (d : Node)
    → AreNodes graph one → look_of known claims (get_or one i d).step.ask ≡ Guess p
    → IsChildAt graph one two i k Good → IsChildAt graph two three i j Bad
    → best_at graph known claims (get_or one i d) ≡ better_path (best_at graph known claims (get_or three k d)) (best_at graph known claims (get_or three j d))
best_below graph known claims one two three i k j p d t look g b =
    best_guess graph known claims three N G B p all n_in g_in b_in g_path b_path look
    ∙ better_guess (path_of N) (best_open graph known claims G.state.search) (best_open graph known claims B.state.search)
    ∙ ap (λ (ms : List Mark). better_path (prefixed ms (best_open graph known claims G.state.search))
    (prefixed (path_of N ++ Bad ∷ []) (best_open graph known claims B.state.search))) (sym g_path)
    ∙ ap (λ (ms : List Mark). better_path (best_at graph known claims G) (prefixed ms (best_open graph known claims B.state.search))) (sym b_path)
  where
    N : Node
    N = get_or one i d

    G : Node
    G = get_or three k d

    B : Node
    B = get_or three j d

    one_three : Extends graph one three
    one_three = extends_trans graph one two three g.extends b.extends

    all : AreNodes graph three
    all = extends_nodes graph one three one_three t

    n_in : Contains three N
    n_in = extends_has graph one three N one_three (Contains-get_or one i d g.above)

    g_in : Contains three G
    g_in = Contains-get_or three k d (extends_length graph two three k b.extends g.below)

    b_in : Contains three B
    b_in = Contains-get_or three j d b.below

    g_path : path_of G ≡ path_of N ++ Good ∷ []
    g_path = ap path_of (extends_at graph two three k d b.extends g.below) ∙ g.path d

    b_path : path_of B ≡ path_of N ++ Bad ∷ []
    b_path = b.path d ∙ ap (λ (n : Node). path_of n ++ Bad ∷ []) (extends_at graph one two i d g.extends g.above)

-- ---- the candidates that are left

count_map : (f : ℕ → Bool) (xs : List ℕ) → count_by (λ (v : Bool). v) (map f xs) ≡ count_by f xs
count_map f [] = refl
count_map f (x ∷ xs) = sum_by-cons (λ (v : Bool). cond v 1 0) (f x) (map f xs) ∙ ap (λ (n : ℕ). cond (f x) 1 0 + n) (count_map f xs) ∙ sym
    (sum_by-cons (λ y. cond (f y) 1 0) x xs)

count_none : (n : ℕ) → count_by (λ (v : Bool). v) (replicate n false) ≡ 0
count_none zero = refl
count_none (suc n) = omega (arith, sum_by-cons (λ (v : Bool). cond v 1 0) false (replicate n false), count_none n)

count_never : (xs : List ℕ) → count_by (λ (p : ℕ). false) xs ≡ 0
count_never [] = refl
count_never (x ∷ xs) = omega (arith, sum_by-cons (λ (p : ℕ). cond false 1 0) x xs, count_never xs)

pub count_mask : (graph : List (List ℕ)) (s : Search) → count_by (λ (v : Bool). v) (mask_of graph s) ≡ left_of graph s
unfolding left_of candidate_row
count_mask graph s = by_bad s.bad
  where
    by_bad : (o : Option ℕ) → count_by (λ (v : Bool). v) (row_below graph o s) ≡ count_by (λ p. is_candidate_below graph o s p) (places graph)
    by_bad None = count_none (length graph) ∙ sym (count_never (places graph))
    by_bad (Some bad) = count_map (λ p. is_candidate graph bad s.goods s.first_parent p) (places graph)

pub free_found : (graph : List (List ℕ)) (nodes : List Node) (i p : ℕ) (one two : Node) (left depth : ℕ) (best : Option OpenPath) → AreNodes graph nodes
    → i < length nodes → one ≡ get_or nodes i one → two ≡ get_or nodes i two
    → left ≡ count_by (λ (v : Bool). v) (arc_value one.sight.mask) → depth ≡ length (path_of two)
    → ((d : Node) → best ≡ Some (record { marks = path_of (get_or nodes i d); place = p; left = left_of graph (get_or nodes i d).state.search }))
    → IsFound nodes (Some (record { place = p; left = left; depth = depth })) best
free_found graph nodes i p one two left depth best t l e f is_left is_depth h =
    let here : IsNode graph t.session t.root one = All-contains (IsNode graph t.session t.root) nodes one t.tree.each (i, l, sym e) in
    let same : two ≡ one = f ∙ read_as nodes i one two l e in
    subst (λ (x : Option OpenPath). IsFound nodes (Some (record { place = p; left = left; depth = depth })) x)
    (sym (h one ∙ ap (λ (n : Node). Some (record { marks = path_of n; place = p; left = left_of graph n.state.search })) (sym e))) (
      refl,
      is_left ∙ ap (λ (row : List Bool). count_by (λ (v : Bool). v) row) here.sight.mask ∙ count_mask graph one.state.search,
      is_depth ∙ ap
          (λ (n : Node). length (path_of n)) same,
      record { node = one; among = (i, l, sym e); has = refl },
    )
