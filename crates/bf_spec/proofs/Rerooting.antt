-- Trees whose root moves on.
use Rattle.std.proofs.Common.{◌≡◌, ℕ, zero, suc, ◌<◌, ◌≤◌, ◌⊎◌, Bool, true, cond, List, [], ◌∷◌, ◌++◌, length, get_or, drop, Option, Some, None, Result, Ok}
use Rattle.std.proofs.Common.{Err, refl, sym, ap, ◌∙◌, subst, inl, inr, ⊎_elim, arith, append_assoc}
use Rattle.std.proofs.lemmas.Bool.{cases_Bool, cond-true, cond-false, and_parts, and_from}
use Rattle.std.proofs.lemmas.List.Elements.{All-contains, All-filter, All-head, All-tail, filter_passes, Contains-get_or}
use Rattle.std.specs.List.{All, Contains, filter}
use Rattle.std.specs.Result.{OnOk, OnErr}
use Rattle.bf_search.specs.declared.asks.Ask.TheVariants.{Test}
use Rattle.bf_search.specs.declared.outcomes.Mark.{Mark}
use Rattle.bf_search.specs.declared.outcomes.Mark.TheVariants.{Good, Bad, Skip}
use Rattle.bf_search.specs.State.{Asked}
use Rattle.bf_graph.specs.Graph.{IsGraph}
use Rattle.bf_search.specs.State.{Search, ask}
use Rattle.bf_state.specs.Session.{Session, with_search, IsSearchBelow}
use Rattle.bf_state.proofs.AskAgain.{ask_again}
use Rattle.bf_spec.specs.declared.node.Node.{Node}
use Rattle.bf_state.specs.Ends.{HasEnds}
use Rattle.bf_spec.specs.Guessed.{next_asked, asked_at, IsSettled}
use Rattle.bf_spec.specs.Sights.{IsSight}
use Rattle.bf_spec.specs.declared.node.Sight.{Sight}
use Rattle.bf_spec.specs.Nodes.{path_of, asked_of, HasPath, IsNode, IsChild, IsTree, Extends, IsFound}
use Rattle.bf_spec.specs.Reroot.{is_mark, begins, IsCut}
use Rattle.bf_search.specs.OpenPaths.{OpenPath, place_of}
use Rattle.bf_spec.specs.declared.walk.Found.{Found}
use Rattle.bf_spec.specs.Paths.{place_in}
use Rattle.bf_spec.specs.Tree.{Rooted, paths_of, is_empty, rooted_of, session_of, root_of, IsRooted}
use Rattle.bf_spec.proofs.Growing.{asked_at-append, settled_at, ends_next, extends_has}

-- ---- a list's elements after a filter

pub filter_has : {X : Type 0} (test : X → Bool) (xs : List X) (x : X) → Contains xs x → test x ≡ true → Contains (filter test xs) x
filter_has test [] x c t = absurd (omega (arith, c.1))
filter_has {X} test (y ∷ ys) x (zero, l, e) t =
    let here : test y ≡ true = ap test e ∙ t in
    subst (λ (zs : List X). Contains zs x) (sym (cond-true (test y) (y ∷ filter test ys) (filter test ys) here)) (0, omega arith, e)
filter_has {X} test (y ∷ ys) x (suc k, l, e) t =
    let rest : Contains (filter test ys) x = filter_has test ys x (k, omega arith, e) t in
    ⊎_elim
    (λ yes. subst (λ (zs : List X). Contains zs x) (sym (cond-true (test y) (y ∷ filter test ys) (filter test ys) yes))
    (suc rest.0, omega (arith, rest.1), rest.2))
    (λ fails. subst (λ (zs : List X). Contains zs x) (sym (cond-false (test y) (y ∷ filter test ys) (filter test ys) fails)) rest)
    (cases_Bool (test y))

pub filter_from : {X : Type 0} (test : X → Bool) (xs : List X) (x : X) → Contains (filter test xs) x → Contains xs x × (test x ≡ true)
filter_from {X} test xs x c = (
  All-contains (Contains xs) (filter test xs) x (All-filter test (Contains xs) xs (λ k d l. Contains-get_or xs k d l)) c,
  All-contains (λ (y : X). test y ≡ true) (filter test xs) x (filter_passes test xs) c,
)

-- ---- paths that begin with some marks

same_mark : (m n : Mark) → is_mark m n ≡ true → m ≡ n
same_mark Good Good h = refl
same_mark Good Bad h = cc
same_mark Good Skip h = cc
same_mark Bad Good h = cc
same_mark Bad Bad h = refl
same_mark Bad Skip h = cc
same_mark Skip Good h = cc
same_mark Skip Bad h = cc
same_mark Skip Skip h = refl

is_mark-same : (m : Mark) → is_mark m m ≡ true
is_mark-same Good = refl
is_mark-same Bad = refl
is_mark-same Skip = refl

begins_as : (prefix path : List Mark) → begins prefix path ≡ true → path ≡ prefix ++ drop (length prefix) path
begins_as [] path h = refl
begins_as (m ∷ ms) [] h = cc
begins_as (m ∷ ms) (n ∷ ns) h =
    let parts = and_parts (is_mark m n) (begins ms ns) h in
    ap (λ (x : Mark). x ∷ ns) (sym (same_mark m n parts.0)) ∙ ap (λ (xs : List Mark). m ∷ xs) (begins_as ms ns parts.1)

begins_more : (prefix rest : List Mark) → begins prefix (prefix ++ rest) ≡ true
begins_more [] rest = refl
begins_more (m ∷ ms) rest = and_from (is_mark m m) (begins ms (ms ++ rest)) (is_mark-same m) (begins_more ms rest)

drop_more : (prefix rest : List Mark) → drop (length prefix) (prefix ++ rest) ≡ rest
drop_more [] rest = refl
drop_more (m ∷ ms) rest = drop_more ms rest

pub begins_long : (prefix path : List Mark) → begins prefix path ≡ true → length prefix ≤ length path
begins_long [] path h = omega arith
begins_long (m ∷ ms) [] h = cc
begins_long (m ∷ ms) (n ∷ ns) h = omega (arith, begins_long ms ns (and_parts (is_mark m n) (begins ms ns) h).1)

-- ---- what is kept

-- The nodes are those whose paths begin with some marks, each without them.
pub record IsKept (prefix : List Mark) (old new : List Node) : Type 0 where
  pub each : (node : Node) → Contains new node → (before : Node) × Contains old before × (path_of before ≡ prefix ++ path_of node)
      × (asked_of node ≡ asked_of before) × (node.state ≡ before.state) × (node.sight ≡ before.sight)
  pub all : (path : List Mark) → HasPath old (prefix ++ path) → HasPath new path

sight_as : (graph : List (List ℕ)) (one other : Node) → one.state ≡ other.state → one.sight ≡ other.sight → IsSight graph one.state.search one.sight
    → IsSight graph other.state.search other.sight
sight_as graph one other h k is = subst (λ (x : Sight). IsSight graph other.state.search x) k (subst (λ (s : Session). IsSight graph s.search one.sight) h is)

asked_same : (one other : Node) → one.state ≡ other.state → one.step ≡ other.step → asked_of one ≡ asked_of other
asked_same one other h k = ap (λ s. record { search = s.search; step = one.step }) h ∙ ap (λ st. record { search = other.state.search; step = st }) k

pub kept_by : (prefix : List Mark) (old between new : List Node) → between ≡ filter (λ n. begins prefix (path_of n)) old → length new ≡ length between
    → ((k : ℕ) (d : Node) → k < length between → IsCut (length prefix) (get_or between k d) (get_or new k d)) → IsKept prefix old new
kept_by prefix old between new is len cut = record {
  each = λ node c.
      let room : c.0 < length between = omega (arith, len, c.1) in
      let k : IsCut (length prefix) (get_or between c.0 node) (get_or new c.0 node) = cut c.0 node room in
      let from = filter_from (λ n. begins prefix (path_of n)) old (get_or between c.0 node)
      (subst (λ (xs : List Node). Contains xs (get_or between c.0 node)) is (Contains-get_or between c.0 node room)) in (
        get_or between c.0 node,
        from.0,
        begins_as prefix (path_of (get_or between c.0 node)) from.1 ∙ ap (λ (p : List Mark). prefix ++ p) (sym k.path ∙ ap path_of c.2),
        asked_same node (get_or between c.0 node) (ap (λ (n : Node). n.state) (sym c.2) ∙ k.state) (ap (λ (n : Node). n.step) (sym c.2) ∙ k.step),
        ap (λ (n : Node). n.state) (sym c.2) ∙ k.state,
        ap (λ (n : Node). n.sight) (sym c.2) ∙ k.sight,
      );
  all = λ path h.
      let in_between : Contains between h.node = subst (λ (xs : List Node). Contains xs h.node) (sym is)
      (filter_has (λ n. begins prefix (path_of n)) old h.node h.among (ap (λ (p : List Mark). begins prefix p) h.has ∙ begins_more prefix path)) in
      let room : in_between.0 < length new = omega (arith, len, in_between.1) in
      let k : IsCut (length prefix) (get_or between in_between.0 h.node) (get_or new in_between.0 h.node) = cut in_between.0 h.node in_between.1 in
      record {
        node = get_or new in_between.0 h.node;
        among = Contains-get_or new in_between.0 h.node room;
        has = k.path ∙ ap (λ (n : Node). drop (length prefix) (path_of n)) in_between.2 ∙ ap (λ (p : List Mark). drop (length prefix) p) h.has ∙ drop_more
            prefix path;
      };
}

settled_child : (graph : List (List ℕ)) (root : Asked) (m : Mark) → IsSettled graph root → IsSettled graph (next_asked graph root m)
settled_child graph root m h = settled_at graph root (m ∷ []) h

-- the kept nodes are those of a tree whose root is the node of the marks
pub kept_tree : (graph : List (List ℕ)) (session : Session) (root : Asked) (prefix : List Mark) (old new : List Node) → IsKept prefix old new
    → HasPath old prefix → IsTree graph session root old → IsTree graph session (asked_at graph root prefix) new
kept_tree graph session root prefix old new k child t = record {
  parents = t.parents;
  len = t.len;
  settled = settled_at graph root prefix t.settled;
  rooted = k.all [] (subst (λ (p : List Mark). HasPath old p) (sym (append_none prefix)) child);
  each = λ i d l.
      let node : Node = get_or new i d in
      let from = k.each node (Contains-get_or new i d l) in
      let was : IsNode graph session root from.0 = All-contains (IsNode graph session root) old from.0 t.each from.1 in
      record {
        asked = from.3 ∙ was.asked ∙ ap (λ (p : List Mark). asked_at graph root p) from.2 ∙ asked_at-append graph root prefix (path_of node);
        session = from.4 ∙ was.session ∙ ap (λ (s : Session). with_search session s.search) (sym from.4);
        sight = sight_as graph from.0 node (sym from.4) (sym from.5) was.sight;
        below = subst (λ (s : Session). IsSearchBelow (length graph) s.search) (sym from.4) was.below;
        ends = subst (λ (s : Session). HasEnds s.search) (sym from.4) was.ends;
      };
  closed = λ path n h.
      let from = k.each h.node h.among in
      k.all path (t.closed (prefix ++ path) n (record
      { node = from.0; among = from.1; has = from.2 ∙ ap (λ (p : List Mark). prefix ++ p) h.has ∙ sym (append_assoc prefix path (n ∷ [])) }));
}
  where
    append_none : (xs : List Mark) → xs ++ [] ≡ xs
    append_none [] = refl
    append_none (x ∷ xs) = ap (λ ys. x ∷ ys) (append_none xs)

-- ---- the root among the nodes

abbrev state_of : Node → Rooted
state_of node = record { session = node.state; step = node.step }

abbrev IsRoot : Rooted → Node → Type 0
IsRoot root node = path_of node ≡ [] → state_of node ≡ root

pick_root : (p : List Mark) (a b root : Rooted) → (p ≡ [] → a ≡ root) → ((m : Mark) (ms : List Mark) → p ≡ m ∷ ms → b ≡ root) → cond (is_empty p) a b ≡ root
pick_root [] a b root h k = h refl
pick_root (m ∷ ms) a b root h k = k m ms refl

first_or_later : {X : Type 0} (x : X) (xs : List X) (y : X) → Contains (x ∷ xs) y → (x ≡ y) ⊎ Contains xs y
first_or_later x xs y (zero, l, e) = inl e
first_or_later x xs y (suc k, l, e) = inr (k, omega arith, e)

no_marks : (m : Mark) (ms : List Mark) → m ∷ ms ≡ [] → ⊥
no_marks m ms e = cc

-- a node with marks is not the root
later : (node : Node) (nodes : List Node) (m : Mark) (ms : List Mark) → path_of node ≡ m ∷ ms → HasPath (node ∷ nodes) [] → HasPath nodes []
later node nodes m ms e h =
    ⊎_elim
    (λ same. absurd (no_marks m ms (sym e ∙ ap path_of same ∙ h.has)))
    (λ among. record { node = h.node; among = among; has = h.has })
    (first_or_later node nodes h.node h.among)

root_found : (root : Rooted) (nodes : List Node) → All (IsRoot root) nodes → HasPath nodes [] → rooted_of nodes ≡ root
root_found root [] all h = absurd (omega (arith, h.among.1))
root_found root (node ∷ nodes) all h =
    pick_root (path_of node) (state_of node) (rooted_of nodes) root (All-head (IsRoot root) node nodes all)
    (λ m ms e. root_found root nodes (All-tail (IsRoot root) node nodes all) (later node nodes m ms e h))

-- a node without marks has asked what the root has asked
pub root_node : (graph : List (List ℕ)) (session : Session) (root : Asked) (nodes : List Node) (node : Node) → IsTree graph session root nodes
    → Contains nodes node → path_of node ≡ [] → asked_of node ≡ root
root_node graph session root nodes node t among e = (All-contains (IsNode graph session root) nodes node t.each among).asked ∙ ap
    (λ (p : List Mark). asked_at graph root p) e

roots_are : (graph : List (List ℕ)) (session : Session) (root : Asked) (nodes : List Node) → IsTree graph session root nodes
    → rooted_of nodes ≡ record { session = with_search session root.search; step = root.step }
roots_are graph session root nodes t =
    root_found (record { session = with_search session root.search; step = root.step }) nodes
    (λ i d l e.
    let among : Contains nodes (get_or nodes i d) = Contains-get_or nodes i d l in
    let is : asked_of (get_or nodes i d) ≡ root = root_node graph session root nodes (get_or nodes i d) t among e in
    ap (λ (s : Session). record { session = s; step = (get_or nodes i d).step })
    ((All-contains (IsNode graph session root) nodes (get_or nodes i d) t.each among).session)
    ∙ ap (λ (a : Asked). record { session = with_search session a.search; step = a.step }) is)
    t.rooted

pub root_is : (graph : List (List ℕ)) (session : Session) (root : Asked) (nodes : List Node) → IsTree graph session root nodes → root_of nodes ≡ root
root_is graph session root nodes t = ap (λ (r : Rooted). record { search = r.session.search; step = r.step }) (roots_are graph session root nodes t)

pub session_is : (graph : List (List ℕ)) (session : Session) (root : Asked) (nodes : List Node) → IsTree graph session root nodes
    → session_of nodes ≡ with_search session root.search
session_is graph session root nodes t = ap (λ (r : Rooted). r.session) (roots_are graph session root nodes t)

pub rooted_as : (graph : List (List ℕ)) (session : Session) (root : Asked) (nodes : List Node) → IsTree graph session root nodes → IsRooted graph nodes
rooted_as graph session root nodes t =
    subst (λ (r : Rooted). IsTree graph r.session (record { search = r.session.search; step = r.step }) nodes) (sym (roots_are graph session root nodes t))
    (record {
      parents = t.parents;
      len = t.len;
      settled = t.settled;
      rooted = t.rooted;
      each = λ i d l.
          let is : IsNode graph session root (get_or nodes i d) = t.each i d l in
          record { asked = is.asked; session = is.session; sight = is.sight; below = is.below; ends = is.ends };
      closed = t.closed;
    })

-- ---- paths

pub path_from : (nodes : List Node) (path : List Mark) → Contains (paths_of nodes) path → HasPath nodes path
path_from [] path c = absurd (omega (arith, c.1))
path_from (node ∷ nodes) path (zero, l, e) = record { node = node; among = (0, omega arith, refl); has = e }
path_from (node ∷ nodes) path (suc k, l, e) =
    let rest : HasPath nodes path = path_from nodes path (k, omega arith, e) in
    record { node = rest.node; among = (suc rest.among.0, omega (arith, rest.among.1), rest.among.2); has = rest.has }

pub path_to : (nodes : List Node) (path : List Mark) → HasPath nodes path → Contains (paths_of nodes) path
path_to nodes path h = found nodes h.among
  where
    found : (xs : List Node) → Contains xs h.node → Contains (paths_of xs) path
    found [] c = absurd (omega (arith, c.1))
    found (x ∷ xs) (zero, l, e) = (0, omega arith, ap path_of e ∙ h.has)
    found (x ∷ xs) (suc k, l, e) = let rest : Contains (paths_of xs) path = found xs (k, omega arith, e) in (suc rest.0, omega (arith, rest.1), rest.2)

-- a prefix of a path that has a node has one
pub prefix_has : (graph : List (List ℕ)) (session : Session) (root : Asked) (nodes : List Node) (begin end : List Mark) → IsTree graph session root nodes
    → HasPath nodes (begin ++ end) → HasPath nodes begin
prefix_has graph session root nodes begin [] t h = subst (λ (p : List Mark). HasPath nodes p) (append_none begin) h
  where
    append_none : (xs : List Mark) → xs ++ [] ≡ xs
    append_none [] = refl
    append_none (x ∷ xs) = ap (λ ys. x ∷ ys) (append_none xs)
prefix_has graph session root nodes begin (m ∷ ms) t h =
    t.closed begin m (prefix_has graph session root nodes (begin ++ m ∷ []) ms t
    (subst (λ (p : List Mark). HasPath nodes p) (sym (append_assoc begin (m ∷ []) ms)) h))

-- ---- trees that have a root alone

-- the nodes of a tree with one node
pub one_tree : (graph : List (List ℕ)) (session : Session) (root : Asked) (node : Node) → IsGraph graph → session.len ≡ length graph → IsSettled graph root
    → path_of node ≡ [] → asked_of node ≡ root
    → node.state ≡ with_search session node.state.search → IsSight graph node.state.search node.sight → IsSearchBelow (length graph) node.state.search
    → HasEnds node.state.search → IsTree graph session root (node ∷ [])
one_tree graph session root node g len settled path asked is sight below ends = record {
  parents = g;
  len = len;
  settled = settled;
  rooted = record { node = node; among = (0, omega arith, refl); has = path };
  each = only (record { asked = asked ∙ ap (λ (p : List Mark). asked_at graph root p) (sym path); session = is; sight = sight; below = below; ends = ends });
  closed = λ p m h. absurd (snoc_some p m (sym h.has ∙ ap path_of (sym (alone h.node h.among)) ∙ path));
}
  where
    only : IsNode graph session root node → All (IsNode graph session root) (node ∷ [])
    only h (zero) d l = h
    only h (suc k) d l = absurd (omega arith)

    alone : (other : Node) → Contains (node ∷ []) other → node ≡ other
    alone other c = ⊎_elim (λ (e : node ≡ other). e) (λ (k : Contains [] other). absurd (omega (arith, k.1))) (first_or_later node [] other c)

    snoc_some : (p : List Mark) (m : Mark) → p ++ m ∷ [] ≡ [] → ⊥
    snoc_some [] m e = cc
    snoc_some (n ∷ ns) m e = cc

pub settled_ask : (graph : List (List ℕ)) (s : Search) → IsSettled graph (ask graph s)
settled_ask graph s = record {
  search = ap (λ (x : Asked). x.search) (ask_again graph s);
  step = ap (λ (x : Asked). x.step.ask) (ask_again graph s);
  warned = ap
      (λ (x : Asked). x.step.warned) (ask_again graph s);
}

-- the node that was found has the path
pub found_path : (nodes : List Node) (i : ℕ) (path : List Mark) → (i < length nodes) × ((d : Node) → path_of (get_or nodes i d) ≡ path) → HasPath nodes path
found_path [] i path h = absurd (omega (arith, h.0))
found_path (node ∷ nodes) i path h = record { node = get_or (node ∷ nodes) i node; among = Contains-get_or (node ∷ nodes) i node h.0; has = h.1 node }

-- ---- what a method of the tree leaves

-- after more nodes have come the root is the same, and the nodes are those of a tree
pub root_kept : (graph : List (List ℕ)) (old new : List Node) → Extends graph old new → IsRooted graph old → root_of new ≡ root_of old
root_kept graph old new e r = root_is graph (session_of old) (root_of old) new (e.stays (session_of old) (root_of old) r)

pub session_kept : (graph : List (List ℕ)) (old new : List Node) → Extends graph old new → IsRooted graph old → session_of new ≡ session_of old
session_kept graph old new e r = session_is graph (session_of old) (root_of old) new (e.stays (session_of old) (root_of old) r)

pub rooted_after : (graph : List (List ℕ)) (old new : List Node) → Extends graph old new → IsRooted graph old → IsRooted graph new
rooted_after graph old new e r = rooted_as graph (session_of old) (root_of old) new (e.stays (session_of old) (root_of old) r)

pub path_kept : (graph : List (List ℕ)) (old new : List Node) (path : List Mark) → Extends graph old new → Contains (paths_of old) path
    → Contains (paths_of new) path
path_kept graph old new path e c =
    let h : HasPath old path = path_from old path c in
    path_to new path (record { node = h.node; among = extends_has graph old new h.node e h.among; has = h.has })

pub place_is : (nodes : List Node) (found : Option Found) (best : Option OpenPath) → IsFound nodes found best → place_in found ≡ place_of best
place_is nodes None None h = refl
place_is nodes None (Some path) h = absurd h
place_is nodes (Some found) None h = absurd h
place_is nodes (Some found) (Some path) h = ap (λ (p : ℕ). Some p) h.0

pub found_has : (nodes : List Node) (found : Option Found) (path : OpenPath) → IsFound nodes found (Some path) → HasPath nodes path.marks
found_has nodes None path h = absurd h
found_has nodes (Some found) path h = h.3

-- ---- the root moves on

pub asks_at : (graph : List (List ℕ)) (session : Session) (root : Asked) (nodes : List Node) (i : ℕ) (d : Node) (p : ℕ) → IsTree graph session root nodes
    → (i < length nodes) × ((e : Node) → path_of (get_or nodes i e) ≡ []) → root.step.ask ≡ Test p → (get_or nodes i d).step.ask ≡ Test p
asks_at graph session root nodes i d p t found h =
    ap (λ (a : Asked). a.step.ask) (root_node graph session root nodes (get_or nodes i d) t (Contains-get_or nodes i d found.0) (found.1 d)) ∙ h

pub moved_tree : (graph : List (List ℕ)) (nodes : List Node) (i : ℕ) (node child new : Node) (m : Mark)
    → (i < length nodes) × ((e : Node) → path_of (get_or nodes i e) ≡ []) → node ≡ get_or nodes i node → IsChild graph node m child
    → path_of new ≡ [] → new.state ≡ child.state → new.step ≡ child.step → new.sight ≡ child.sight → (session : Session) (root : Asked)
    → IsTree graph session root nodes → IsTree graph session (next_asked graph root m) (new ∷ [])
moved_tree graph nodes i node child new m found read is path state step sight session root t =
    one_tree graph session (next_asked graph root m) new t.parents t.len (settled_child graph root m t.settled) path
    (asked_same new child state step ∙ is.asked ∙ ap (λ (a : Asked). next_asked graph a m)
    (root_node graph session root nodes node t among (ap path_of read ∙ found.1 node)))
    (state ∙ is.session ∙ ap (λ (s : Session). with_search s child.state.search) here.session ∙ ap (λ (s : Session). with_search session s.search) (sym state))
    (sight_as graph child new (sym state) (sym sight) is.sight)
    (subst (λ (s : Session). IsSearchBelow (length graph) s.search) (sym state) is.below)
    (subst (λ (s : Session). HasEnds s.search) (sym state)
    (subst (λ (a : Asked). HasEnds a.search) (sym is.asked) (ends_next graph (asked_of node) m here.ends)))
  where
    among : Contains nodes node
    among = (i, found.0, sym read)

    here : IsNode graph session root node
    here = All-contains (IsNode graph session root) nodes node t.each among

-- what holds in each case of a result
pub ok_so : {T E P Q : Type 0} (r : Result T E) → (P → Q) → OnOk r P → OnOk r Q
ok_so (Ok x) f p = f p
ok_so (Err e) f p = tt

pub by_result : {T E P Q R : Type 0} (r : Result T E) → OnOk r P → OnErr r Q → (P → R) → (Q → R) → R
by_result (Ok x) p q f h = f p
by_result (Err e) p q f h = h q

-- the root has moved on
pub record IsMoved (graph : List (List ℕ)) (old new : List Node) (to : Asked) : Type 0 where
  pub root : root_of new ≡ to
  pub session : session_of new ≡ with_search (session_of old) (root_of new).search
  pub tree : IsRooted graph new

pub root_moved : (graph : List (List ℕ)) (next : Asked → Asked) (old new : List Node)
    → ((session : Session) (root : Asked) → IsTree graph session root old → IsTree graph session (next root) new)
    → IsRooted graph old → IsMoved graph old new (next (root_of old))
root_moved graph next old new h r = record {
  root = is;
  session = session_is graph (session_of old) (next (root_of old)) new t ∙ ap (λ (a : Asked). with_search (session_of old) a.search) (sym is);
  tree = rooted_as graph (session_of old) (next (root_of old)) new t;
}
  where
    t : IsTree graph (session_of old) (next (root_of old)) new
    t = h (session_of old) (root_of old) r

    is : root_of new ≡ next (root_of old)
    is = root_is graph (session_of old) (next (root_of old)) new t

pub root_step_at : (graph : List (List ℕ)) (session : Session) (root : Asked) (nodes : List Node) (i : ℕ) (d : Node) → IsTree graph session root nodes
    → (i < length nodes) × ((e : Node) → path_of (get_or nodes i e) ≡ []) → (get_or nodes i d).step ≡ (root_of nodes).step
root_step_at graph session root nodes i d t found =
    ap (λ (a : Asked). a.step) (root_node graph session root nodes (get_or nodes i d) t (Contains-get_or nodes i d found.0) (found.1 d) ∙ sym
    (root_is graph session root nodes t))
