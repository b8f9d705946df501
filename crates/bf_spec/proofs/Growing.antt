-- Trees that grow.
use Rattle.std.proofs.Common.{◌≡◌, ℕ, ◌<◌, Bool, true, false, cond, List, [], ◌∷◌, ◌++◌, length, get_or, refl, sym, ap, ◌∙◌, subst, ⊎_elim, arith, append_assoc}
use Rattle.std.proofs.Common.{length-append}
use Rattle.std.proofs.lemmas.List.{get_or_default, get_or_append_left}
use Rattle.std.proofs.lemmas.List.Elements.{All-contains, All-push, Contains-append_left, Contains-push_cases}
use Rattle.std.specs.List.{Contains}
use Rattle.bf_search.specs.declared.asks.Ask.{Ask}
use Rattle.bf_search.specs.declared.asks.Ask.TheVariants.{WaitBoth, WaitBad, WaitGood, Test, MergeBaseBad, GoodNotAncestor, BothSides, FirstBad, OnlySkipped}
use Rattle.bf_search.specs.declared.outcomes.Mark.TheVariants.{Good, Bad, Skip}
use Rattle.bf_search.specs.Bases.{has_place}
use Rattle.bf_state.proofs.Asks.{ask_leaves}
use Rattle.bf_search.specs.declared.outcomes.Mark.{Mark}
use Rattle.bf_search.specs.State.{Search, Asked, ask, mark}
use Rattle.bf_search.proofs.Turns.{asking}
use Rattle.bf_state.specs.Session.{Session, with_search}
use Rattle.bf_state.proofs.AskAgain.{ask_again}
use Rattle.bf_spec.specs.declared.node.Node.{Node}
use Rattle.bf_state.specs.Ends.{HasEnds}
use Rattle.bf_spec.specs.Guessed.{marked_by, next_asked, asked_at, IsSettled}
use Rattle.bf_spec.specs.Sights.{IsSight}
use Rattle.bf_spec.specs.Nodes.{path_of, asked_of, HasPath, IsNode, IsChild, AreNodes, StaysTree, Grows, Extends}

-- ---- paths

pub asked_at-append : (graph : List (List ℕ)) (a : Asked) (path more : List Mark)
    → asked_at graph a (path ++ more) ≡ asked_at graph (asked_at graph a path) more
asked_at-append graph a [] more = refl
asked_at-append graph a (m ∷ ms) more = asked_at-append graph (next_asked graph a m) ms more

settled_next : (graph : List (List ℕ)) (a : Asked) (m : Mark) → IsSettled graph (next_asked graph a m)
settled_next graph a m = record {
  search = ap (λ (x : Asked). x.search) (ask_again graph (marked_by a.search m a.step.ask));
  step = ap (λ (x : Asked). x.step.ask) (ask_again graph (marked_by a.search m a.step.ask));
  warned = ap (λ (x : Asked). x.step.warned) (ask_again graph (marked_by a.search m a.step.ask));
}

-- what is asked along a path from there is settled
pub settled_at : (graph : List (List ℕ)) (a : Asked) (path : List Mark) → IsSettled graph a → IsSettled graph (asked_at graph a path)
settled_at graph a [] h = h
settled_at graph a (m ∷ ms) h = settled_at graph (next_asked graph a m) ms (settled_next graph a m)

-- an ask and a mark keep the ends
ends_marked : (s : Search) (m : Mark) (p : ℕ) → HasEnds s → HasEnds (mark s m p)
unfolding mark
ends_marked s Good p h = record { bad = h.bad; bad_is = h.bad_is; some_good = kept (has_place s.goods p) }
  where
    pushed : (xs : List ℕ) → xs ++ p ∷ [] ≡ [] → ⊥
    pushed [] e = cc
    pushed (x ∷ xs) e = cc

    kept : (b : Bool) → cond b s.goods (s.goods ++ p ∷ []) ≡ [] → ⊥
    kept true = h.some_good
    kept false = pushed s.goods
ends_marked s Bad p h = record { bad = p; bad_is = refl; some_good = h.some_good }
ends_marked s Skip p h = record { bad = h.bad; bad_is = h.bad_is; some_good = h.some_good }

pub ends_asked : (graph : List (List ℕ)) (s : Search) → HasEnds s → HasEnds (ask graph s).search
ends_asked graph s h = subst (λ (t : Search). HasEnds t) (sym (ask_leaves graph s)) (record { bad = h.bad; bad_is = h.bad_is; some_good = h.some_good })

pub ends_next : (graph : List (List ℕ)) (a : Asked) (m : Mark) → HasEnds a.search → HasEnds (next_asked graph a m).search
ends_next graph a m h = ends_asked graph (marked_by a.search m a.step.ask) (by_ask a.step.ask)
  where
    by_ask : (x : Ask) → HasEnds (marked_by a.search m x)
    by_ask (Test p) = ends_marked a.search m p h
    by_ask WaitBoth = h
    by_ask WaitBad = h
    by_ask WaitGood = h
    by_ask (MergeBaseBad p) = h
    by_ask (GoodNotAncestor p) = h
    by_ask (BothSides p) = h
    by_ask (FirstBad p) = h
    by_ask (OnlySkipped ps) = h

pub push_same : (m n : Mark) (path other : List Mark) → path ++ m ∷ [] ≡ other ++ n ∷ [] → path ≡ other
push_same m n [] [] h = refl
push_same m n [] (o ∷ []) h = cc
push_same m n [] (o ∷ k ∷ os) h = cc
push_same m n (o ∷ []) [] h = cc
push_same m n (o ∷ k ∷ ms) [] h = cc
push_same m n (k ∷ ms) (o ∷ os) h =
    let heads : k ≡ o = cc in
    let rest : ms ≡ os = push_same m n ms os (tails h) in
    cc
  where
    tails : {x y : Mark} {xs ys : List Mark} → x ∷ xs ≡ y ∷ ys → xs ≡ ys
    tails e = cc

-- ---- trees

pub same_tree : (graph : List (List ℕ)) (nodes : List Node) → StaysTree graph nodes nodes
same_tree graph nodes = λ session root t. t

pub same_nodes : (nodes : List Node) → Grows nodes nodes
same_nodes nodes = record { more = []; grown = sym (append_nil nodes) }
  where
    append_nil : (xs : List Node) → xs ++ [] ≡ xs
    append_nil [] = refl
    append_nil (x ∷ xs) = ap (λ ys. x ∷ ys) (append_nil xs)

pub HasPath-push : (nodes : List Node) (node : Node) (path : List Mark) → HasPath nodes path → HasPath (nodes ++ node ∷ []) path
HasPath-push nodes node path h = record { node = h.node; among = Contains-append_left nodes (node ∷ []) h.node h.among; has = h.has }

pub tree_push : (graph : List (List ℕ)) (nodes : List Node) (parent child : Node) (m : Mark) → Contains nodes parent → IsChild graph parent m child
    → StaysTree graph nodes (nodes ++ child ∷ [])
tree_push graph nodes parent child m among is = λ session root t.
    let here : IsNode graph session root parent = All-contains (IsNode graph session root) nodes parent t.each among in
    record {
      parents = t.parents;
      len = t.len;
      settled = t.settled;
      rooted = HasPath-push nodes child [] t.rooted;
      each = All-push (IsNode graph session root) nodes child t.each (record {
        asked = is.asked ∙ ap (λ (a : Asked). next_asked graph a m) here.asked ∙ sym (asked_at-append graph root (path_of parent) (m ∷ [])) ∙ ap
            (λ (p : List Mark). asked_at graph root p) (sym is.path);
        session = is.session ∙ ap (λ (s : Session). with_search s child.state.search) here.session;
        sight = is.sight;
        below = is.below;
        ends = subst (λ (a : Asked). HasEnds a.search) (sym is.asked) (ends_next graph (asked_of parent) m here.ends);
      });
      closed = λ path n h. ⊎_elim
          (λ old. HasPath-push nodes child path (t.closed path n (record { node = h.node; among = old; has = h.has })))
          (λ (new : child ≡ h.node).
          let ends : path ++ n ∷ [] ≡ path_of parent ++ m ∷ [] = sym h.has ∙ ap path_of (sym new) ∙ is.path in
          HasPath-push nodes child path (record { node = parent; among = among; has = sym (push_same n m path (path_of parent) ends) }))
          (Contains-push_cases nodes child h.node h.among);
    }

-- a place that a node asks is a place of the graph
pub asked_within : (graph : List (List ℕ)) (nodes : List Node) (node : Node) (p : ℕ) → AreNodes graph nodes → Contains nodes node → node.step.ask ≡ Test p
    → p < length graph
asked_within graph nodes node p t among h =
    let here : IsNode graph t.session t.root node = All-contains (IsNode graph t.session t.root) nodes node t.tree.each among in
    let settled : IsSettled graph (asked_of node) = subst (λ (a : Asked). IsSettled graph a) (sym here.asked)
    (settled_at graph t.root (path_of node) t.tree.settled) in
    (asking graph node.state.search p t.tree.parents (settled.step ∙ h)).asks_for.within

-- what a node has in sight are its candidates
pub sight_of : (graph : List (List ℕ)) (nodes : List Node) (node : Node) → AreNodes graph nodes → Contains nodes node
    → IsSight graph node.state.search node.sight
sight_of graph nodes node t among = (All-contains (IsNode graph t.session t.root) nodes node t.tree.each among).sight

-- ---- lists of nodes that grow

pub extends_same : (graph : List (List ℕ)) (nodes : List Node) → Extends graph nodes nodes
extends_same graph nodes = record { grows = same_nodes nodes; stays = same_tree graph nodes }

pub extends_push : (graph : List (List ℕ)) (nodes : List Node) (parent child : Node) (m : Mark) → Contains nodes parent → IsChild graph parent m child
    → Extends graph nodes (nodes ++ child ∷ [])
extends_push graph nodes parent child m among is = record
    { grows = record { more = child ∷ []; grown = refl }; stays = tree_push graph nodes parent child m among is }

pub extends_trans : (graph : List (List ℕ)) (one two three : List Node) → Extends graph one two → Extends graph two three → Extends graph one three
extends_trans graph one two three a b = record {
  grows = record {
    more = a.grows.more ++ b.grows.more;
    grown = b.grows.grown ∙ ap (λ (xs : List Node). xs ++ b.grows.more) a.grows.grown ∙ append_assoc one a.grows.more b.grows.more;
  };
  stays = λ session root t. b.stays session root (a.stays session root t);
}

pub extends_nodes : (graph : List (List ℕ)) (one two : List Node) → Extends graph one two → AreNodes graph one → AreNodes graph two
extends_nodes graph one two e t = record { session = t.session; root = t.root; tree = e.stays t.session t.root t.tree }

pub extends_length : (graph : List (List ℕ)) (one two : List Node) (k : ℕ) → Extends graph one two → k < length one → k < length two
extends_length graph one two k e l = omega (arith, ap length e.grows.grown, length-append one e.grows.more)

pub extends_at : (graph : List (List ℕ)) (one two : List Node) (k : ℕ) (d : Node) → Extends graph one two → k < length one → get_or two k d ≡ get_or one k d
extends_at graph one two k d e l = ap (λ (xs : List Node). get_or xs k d) e.grows.grown ∙ get_or_append_left one e.grows.more d k l

pub extends_has : (graph : List (List ℕ)) (one two : List Node) (node : Node) → Extends graph one two → Contains one node → Contains two node
extends_has graph one two node e c = subst (λ (xs : List Node). Contains xs node) (sym e.grows.grown) (Contains-append_left one e.grows.more node c)

-- what was read at an index is there whatever stands past the end
pub read_as : (nodes : List Node) (k : ℕ) (node d : Node) → k < length nodes → node ≡ get_or nodes k node → get_or nodes k d ≡ node
read_as nodes k node d l e = get_or_default nodes k d node l ∙ sym e
