-- What a run has made where it halts.
use Rattle.std.proofs.Common.{◌≡◌, ℕ, ◌<◌, List, [], ◌∷◌, ◌++◌, length, get_or, true, false, Option, Some, None, Result, Ok, Err, refl, sym, ap, ◌∙◌, subst}
use Rattle.std.proofs.lemmas.List.Elements.{All-contains, Contains-get_or}
use Rattle.std.specs.List.{Contains}
use Rattle.std.specs.Result.{IfOk}
use Rattle.bf_search.specs.Farm.{end_of}
use Rattle.bf_search.specs.declared.asks.Ask.TheVariants.{Test}
use Rattle.bf_search.specs.declared.entries.Entry.{Entry}
use Rattle.bf_search.specs.declared.farm.Ending.{Ending}
use Rattle.bf_search.specs.declared.farm.Ending.TheVariants as endings
use Rattle.bf_search.specs.declared.outcomes.Mark.{Mark}
use Rattle.bf_search.specs.declared.outcomes.Outcome.{Outcome}
use Rattle.bf_search.specs.Outcomes.{Outcomes}
use Rattle.bf_search.specs.Run.{End, Answered, Leg, Open, Aborted, Run, ended, run}
use Rattle.bf_search.specs.State.{Search, Asked, ask, mark}
use Rattle.bf_state.specs.Session.{Session, with_search}
use Rattle.bf_spec.specs.declared.follow.Halt.TheVariants as halts
use Rattle.bf_spec.specs.declared.follow.Walked.{Walked}
use Rattle.bf_spec.specs.declared.node.Node.{Node}
use Rattle.bf_spec.specs.Guessed.{asked_at}
use Rattle.bf_spec.specs.Nodes.{path_of, asked_of, IsNode, IsTree, AreNodes}
use Rattle.bf_state.specs.Ends.{marks_of}
use Rattle.bf_spec.specs.Walks.{answer_entries, is_over, run_below, LeadsInto, Tells, HaltsAt, IsEndedAt, IsOverAt, IsWalked}
use Rattle.bf_spec.proofs.Growing.{asked_within, read_as, settled_at}
use Rattle.bf_spec.proofs.Walking.{NodeFacts, node_facts, child_asks, child_search}
use Rattle.bf_spec.proofs.Following.{append_nil, marks_answer, run_node, run_over}
use Rattle.bf_spec.proofs.Rerooting.{root_node}

-- a run that ends in the state of a node
pub walked_here : (graph : List (List ℕ)) (session : Session) (root : Asked) (nodes : List Node) (whole : Run) (walked : Walked) (node : Node) (es : List Entry)
    (end : End)
    → IsTree graph session root nodes → Contains nodes node → LeadsInto es (ended [] node.state.search end) whole → path_of node ≡ marks_of es
    → ((p : ℕ) → end ≡ Open p → node.step.ask ≡ Test p)
    → walked.entries.items ≡ es → Tells walked.ending end → walked.state ≡ node.state → walked.path.items ≡ path_of node
    → IsWalked graph session root nodes whole walked
walked_here graph session root nodes whole walked node es end t among is marks asks entries ending state path = record {
  entries = entries ∙ sym all;
  ending = subst (λ (x : End). Tells walked.ending x) (sym is.end) ending;
  state = state ∙ here.session ∙ ap (λ (s : Search). with_search session s) (sym is.search);
  path = path ∙ marks ∙ ap marks_of (sym all);
  node = record { node = node; among = among; has = sym path };
  there = λ on. ap (λ (a : Asked). a.search) asked ∙ sym is.search;
  asked = sym (settled_at graph root walked.path.items t.settled).search ∙ ap (λ (a : Asked). (ask graph a.search).search) asked
      ∙ ap (λ (s : Search). (ask graph s).search) (sym is.search);
  waits = λ p e. ap (λ (a : Asked). a.step.ask) asked ∙ asks p (sym is.end ∙ e);
}
  where
    all : whole.entries ≡ es
    all = is.entries ∙ append_nil es

    here : IsNode graph session root node
    here = All-contains (IsNode graph session root) nodes node t.each among

    asked : asked_at graph root walked.path.items ≡ asked_of node
    asked = ap (λ (ms : List Mark). asked_at graph root ms) path ∙ sym here.asked

-- a run that ends with an answer
pub walked_answer : (graph : List (List ℕ)) (session : Session) (root : Asked) (nodes : List Node) (whole : Run) (walked : Walked) (node : Node)
    (es : List Entry)
    → IsTree graph session root nodes → Contains nodes node
    → LeadsInto es (ended (answer_entries node.step.ask) node.state.search (Answered node.step.ask)) whole → path_of node ≡ marks_of es
    → walked.entries.items ≡ es ++ answer_entries node.step.ask → Tells walked.ending (Answered node.step.ask)
    → walked.state ≡ node.state → walked.path.items ≡ path_of node → IsWalked graph session root nodes whole walked
walked_answer graph session root nodes whole walked node es t among is marks entries ending state path =
    walked_here graph session root nodes whole walked node (es ++ answer_entries node.step.ask) (Answered node.step.ask) t among
    (record { entries = is.entries ∙ sym (append_nil (es ++ answer_entries node.step.ask)); search = is.search; end = is.end })
    (marks ∙ sym (marks_answer es node.step.ask)) (λ p e. absurd (not_open p e)) entries ending state path
  where
    not_open : (p : ℕ) → Answered node.step.ask ≡ Open p → ⊥
    not_open p e = cc

-- a run whose leg is over after a mark that leads from one node to another
pub walked_over : (graph : List (List ℕ)) (session : Session) (root : Asked) (nodes : List Node) (whole : Run) (walked : Walked) (from to : Node) (m : Mark)
    (p : ℕ) (es : List Entry)
    → IsTree graph session root nodes → Contains nodes from → Contains nodes to → LeadsInto es (ended [] (mark from.state.search m p) Leg) whole
    → path_of to ≡ marks_of es → from.step.ask ≡ Test p → path_of to ≡ path_of from ++ m ∷ []
    → walked.entries.items ≡ es → Tells walked.ending Leg → walked.state ≡ with_search from.state (mark from.state.search m p)
    → walked.path.items ≡ path_of to → IsWalked graph session root nodes whole walked
walked_over graph session root nodes whole walked from to m p es t one other is marks asks further entries ending state path = record {
  entries = entries ∙ sym all;
  ending = subst (λ (x : End). Tells walked.ending x) (sym is.end) ending;
  state = state ∙ ap (λ (s : Session). with_search s (mark from.state.search m p)) here.session
      ∙ ap (λ (s : Search). with_search session s) (sym is.search);
  path = path ∙ marks ∙ ap marks_of (sym all);
  node = record { node = to; among = other; has = sym path };
  there = λ on. absurd (on is.end);
  asked = ap (λ (ms : List Mark). (asked_at graph root ms).search) path ∙ ap (λ (a : Asked). a.search) (sym below.asked)
      ∙ child_search graph from to m p
      (child_asks graph nodes from to m (record { session = session; root = root; tree = t }) one other further) asks
      ∙ ap (λ (s : Search). (ask graph s).search) (sym is.search);
  waits = λ q e. absurd (not_open q (sym is.end ∙ e));
}
  where
    all : whole.entries ≡ es
    all = is.entries ∙ append_nil es

    here : IsNode graph session root from
    here = All-contains (IsNode graph session root) nodes from t.each one

    below : IsNode graph session root to
    below = All-contains (IsNode graph session root) nodes to t.each other

    not_open : (q : ℕ) → Leg ≡ Open q → ⊥
    not_open q e = cc

-- ---- by halts

pub if_ok : {E T : Type 0} {P Q : T → Type 0} (r : Result T E) → IfOk r P → ((x : T) → P x → Q x) → IfOk r Q
if_ok (Ok x) p f = f x p
if_ok (Err e) p f = tt

module _ (graph : List (List ℕ)) (session : Session) (root : Asked) (nodes : List Node) (whole : Run) (walked : Walked) (t : IsTree graph session root nodes)
  where
    pub waits_walked : (i : ℕ) (node : Node) (es : List Entry) → node ≡ get_or nodes i node
        → HaltsAt nodes es (halts.Waits i) whole → IsEndedAt node es None walked
        → IsWalked graph session root nodes whole walked
    waits_walked i node es e at is =
        walked_here graph session root nodes whole walked node es (Open here.0) t (i, at.0, sym e) here.2 here.3
        (λ q k. here.1 ∙ ap (λ (x : ℕ). Test x) (same here.0 q k))
        is.logged (subst (λ (o : Option Ending). Tells o (Open here.0)) (sym is.ending) refl) is.state is.path
      where
        here : (p : ℕ) × (node.step.ask ≡ Test p) × LeadsInto es (ended [] node.state.search (Open p)) whole × (path_of node ≡ marks_of es)
        here = subst (λ (n : Node). (p : ℕ) × (n.step.ask ≡ Test p) × LeadsInto es (ended [] n.state.search (Open p)) whole
            × (path_of n ≡ marks_of es)) (sym e) (at.1 node)

        same : (p q : ℕ) → Open p ≡ Open q → p ≡ q
        same p q k = cc

    pub aborted_walked : (i p : ℕ) (outcome : Outcome) (node : Node) (es : List Entry) → node ≡ get_or nodes i node
        → HaltsAt nodes es (halts.Aborted i p outcome) whole → IsEndedAt node es (Some (endings.Aborted p outcome)) walked
        → IsWalked graph session root nodes whole walked
    aborted_walked i p outcome node es e at is =
        walked_here graph session root nodes whole walked node es (Aborted p outcome) t (i, at.0, sym e) here.0 here.1
        (λ q k. absurd (no q k))
        is.logged (subst (λ (o : Option Ending). Tells o (Aborted p outcome)) (sym is.ending) (refl, refl))
        is.state is.path
      where
        here : LeadsInto es (ended [] node.state.search (Aborted p outcome)) whole × (path_of node ≡ marks_of es)
        here = subst (λ (n : Node). LeadsInto es (ended [] n.state.search (Aborted p outcome)) whole × (path_of n ≡ marks_of es)) (sym e) (at.1 node)

        no : (q : ℕ) → Aborted p outcome ≡ Open q → ⊥
        no q k = cc

    pub answered_walked : (i : ℕ) (d node : Node) (es fs : List Entry) (ending : Ending) → node ≡ get_or nodes i node
        → HaltsAt nodes es (halts.Answered i) whole
        → fs ≡ es ++ answer_entries (get_or nodes i d).step.ask
        → end_of ending ≡ Answered (get_or nodes i d).step.ask → IsEndedAt node fs (Some ending) walked → IsWalked graph session root nodes whole walked
    answered_walked i d node es fs ending e at entries tells is =
        walked_answer graph session root nodes whole walked node es t (i, at.0, sym e) here.0 here.1
        (is.logged ∙ entries ∙ ap (λ (n : Node). es ++ answer_entries n.step.ask) same)
        (subst (λ (o : Option Ending). Tells o (Answered node.step.ask)) (sym is.ending) (tells ∙ ap (λ (n : Node). Answered n.step.ask) same, refl)) is.state
        is.path
      where
        same : get_or nodes i d ≡ node
        same = read_as nodes i node d at.0 e

        here : LeadsInto es (ended (answer_entries node.step.ask) node.state.search (Answered node.step.ask)) whole × (path_of node ≡ marks_of es)
        here = subst (λ (n : Node). LeadsInto es (ended (answer_entries n.step.ask) n.state.search (Answered n.step.ask)) whole × (path_of n ≡ marks_of es))
            (sym e) ((at.1 node).1, (at.1 node).2)

    pub over_walked : (i j p : ℕ) (m : Mark) (from to : Node) (es : List Entry) → from ≡ get_or nodes i from → to ≡ get_or nodes j to
        → HaltsAt nodes es (halts.Over i j m p) whole → IsOverAt from to m p es walked
        → IsWalked graph session root nodes whole walked
    over_walked i j p m from to es e f at is =
        walked_over graph session root nodes whole walked from to m p es t (i, at.0, sym e) (j, at.1, sym f)
        (subst (λ (n : Node). LeadsInto es (ended [] (mark n.state.search m p) Leg) whole) (sym e) (at.2 from).0)
        (subst (λ (n : Node). path_of n ≡ marks_of es) (sym f) (at.2 to).1)
        (subst (λ (n : Node). n.step.ask ≡ Test p) (sym e) (at.2 from).2) further
        is.logged (subst (λ (o : Option Ending). Tells o Leg) (sym is.ending) (refl, refl)) is.state is.path
      where
        -- the two nodes as both are read with one other past the end
        further : path_of to ≡ path_of from ++ m ∷ []
        further = ap path_of (sym (read_as nodes j to from at.1 f)) ∙ (at.2 from).3 ∙ ap (λ (n : Node). path_of n ++ m ∷ []) (sym e)

-- the place of a leg's last mark
pub over_within : (graph : List (List ℕ)) (nodes : List Node) (whole : Run) (es : List Entry) (i j p : ℕ) (m : Mark) (node : Node)
    → AreNodes graph nodes → node ≡ get_or nodes i node → HaltsAt nodes es (halts.Over i j m p) whole → p < node.state.len
over_within graph nodes whole es i j p m node t e at =
    subst (λ (n : ℕ). p < n) (sym (ap (λ (s : Session). s.len) (All-contains (IsNode graph t.session t.root) nodes node t.tree.each (i, at.0, sym e)).session ∙
    t.tree.len))
    (asked_within graph nodes node p t (i, at.0, sym e) (subst (λ (n : Node). n.step.ask ≡ Test p) (sym e) (at.2 node).2))

-- ---- from the root

-- the node of the root
pub root_search : (graph : List (List ℕ)) (session : Session) (root : Asked) (nodes : List Node) (i : ℕ) (d : Node) → IsTree graph session root nodes
    → i < length nodes → ((e : Node) → path_of (get_or nodes i e) ≡ []) → asked_of (get_or nodes i d) ≡ root
root_search graph session root nodes i d t l is = root_node graph session root nodes (get_or nodes i d) t (Contains-get_or nodes i d l) (is d)

-- the run from the root is the one below its node
pub run_root : (graph : List (List ℕ)) (known : Outcomes) (left : Option ℕ) (session : Session) (root : Asked) (nodes : List Node) (i : ℕ) (d : Node)
    → IsTree graph session root nodes → i < length nodes → ((e : Node) → path_of (get_or nodes i e) ≡ []) → is_over left ≡ false
    → run graph known left root.search ≡ run_below graph known left (get_or nodes i d)
run_root graph known left session root nodes i d t l is on =
    let facts = node_facts graph nodes (get_or nodes i d) (record { session = session; root = root; tree = t }) (Contains-get_or nodes i d l) in
    ap (λ (a : Asked). run graph known left a.search) (sym (root_search graph session root nodes i d t l is))
    ∙ run_node graph known left (get_or nodes i d) facts facts.settled.warned on

-- no mark is left
pub spent_walked : (graph : List (List ℕ)) (known : Outcomes) (left : Option ℕ) (session : Session) (root : Asked) (nodes : List Node) (i : ℕ) (node : Node)
    (es : List Entry) (walked : Walked) → IsTree graph session root nodes → i < length nodes
    → ((e : Node) → path_of (get_or nodes i e) ≡ []) → node ≡ get_or nodes i node → is_over left ≡ true → es ≡ []
    → IsEndedAt node es (Some endings.Leg) walked
    → IsWalked graph session root nodes (run graph known left root.search) walked
spent_walked graph known left session root nodes i node es walked t l is e over entries ends =
    walked_here graph session root nodes (run graph known left root.search) walked node [] Leg t (i, l, sym e)
    (subst (λ (r : Run). LeadsInto [] (ended [] node.state.search Leg) r)
    (sym (ap (λ (a : Asked). run graph known left a.search) (sym asked)
    ∙ run_over graph known left node.state.search facts.parents facts.over over))
    (record { entries = refl; search = refl; end = refl }))
    (ap path_of e ∙ is node) (λ q k. absurd (no q k)) (ends.logged ∙ entries)
    (subst (λ (o : Option Ending). Tells o Leg) (sym ends.ending) (refl, refl)) ends.state ends.path
  where
    asked : asked_of node ≡ root
    asked = ap asked_of e ∙ root_search graph session root nodes i node t l is

    facts : NodeFacts graph node
    facts = node_facts graph nodes node (record { session = session; root = root; tree = t }) (i, l, sym e)

    no : (q : ℕ) → Leg ≡ Open q → ⊥
    no q k = cc
