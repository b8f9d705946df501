-- Ways from node to node.
use Rattle.std.proofs.Common.{rules, ◌≡◌, ℕ, zero, suc, ◌<◌, ◌≤◌, List, [], ◌∷◌, ◌++◌, length, get_or, slice_set, Option, Some, None, IfSome, refl, sym, ap, ◌∙◌, subst, arith}
use Rattle.std.proofs.Common.{length-append}
use Rattle.std.proofs.lemmas.List.{get_or_default, get_or_append_left}
use Rattle.bf_search.specs.declared.outcomes.Mark.{Mark}
use Rattle.bf_search.specs.declared.outcomes.Mark.TheVariants.{Good, Bad, Skip}
use Rattle.bf_spec.specs.declared.node.Node.{Node}
use Rattle.bf_spec.specs.declared.nodes.Links.{Links}
use Rattle.bf_spec.specs.Nodes.{path_of}
use Rattle.bf_spec.specs.Links.{link_by, with_link, no_links, LeadsTo, IsLinked, AreLinked}

pub none_linked : (nodes : List Node) (i : ℕ) → IsLinked nodes i no_links
none_linked nodes i Good = search rules
none_linked nodes i Bad = search rules
none_linked nodes i Skip = search rules

pub put_linked : (nodes : List Node) (i : ℕ) (links : Links) (m : Mark) (child : ℕ) → IsLinked nodes i links → LeadsTo nodes i m child
    → IsLinked nodes i (with_link links m child)
put_linked nodes i links Good child h e Good = e
put_linked nodes i links Good child h e Bad = h Bad
put_linked nodes i links Good child h e Skip = h Skip
put_linked nodes i links Bad child h e Good = h Good
put_linked nodes i links Bad child h e Bad = e
put_linked nodes i links Bad child h e Skip = h Skip
put_linked nodes i links Skip child h e Good = h Good
put_linked nodes i links Skip child h e Bad = h Bad
put_linked nodes i links Skip child h e Skip = e

-- links that are read at an index, after one was set
pub set_at : (P : ℕ → Links → Type 0) (links : List Links) (p : ℕ) (x : Links) → p < length links
    → ((i : ℕ) → (i ≡ p → ⊥) → P i (get_or links i no_links)) → P p x → (i : ℕ) → P i (get_or (slice_set links p x) i no_links)
set_at P [] p x l h e i = absurd (omega (arith, l))
set_at P (y ∷ ys) zero x l h e zero = e
set_at P (y ∷ ys) zero x l h e (suc i) = h (suc i) (λ q. omega (arith, q))
set_at P (y ∷ ys) (suc p) x l h e zero = h zero (λ q. omega (arith, q))
set_at P (y ∷ ys) (suc p) x l h e (suc i) =
    set_at (λ k. P (suc k)) ys p x (omega (arith, l)) (λ k n. h (suc k) (λ q. n (omega (arith, q)))) e i

pub past_end : (links : List Links) (i : ℕ) → length links ≤ i → get_or links i no_links ≡ no_links
past_end [] i l = refl
past_end (y ∷ ys) zero l = absurd (omega (arith, l))
past_end (y ∷ ys) (suc i) l = past_end ys i (omega (arith, l))

none_more : (links : List Links) (i : ℕ) → get_or (links ++ no_links ∷ []) i no_links ≡ get_or links i no_links
none_more [] zero = refl
none_more [] (suc i) = refl
none_more (y ∷ ys) zero = refl
none_more (y ∷ ys) (suc i) = none_more ys i

pub at_end : (nodes : List Node) (node d : Node) → get_or (nodes ++ node ∷ []) (length nodes) d ≡ node
at_end [] node d = refl
at_end (y ∷ ys) node d = at_end ys node d

-- a node more, without links
pub linked_more : (nodes : List Node) (links : List Links) → AreLinked nodes links → AreLinked nodes (links ++ no_links ∷ [])
linked_more nodes links h = λ i. subst (λ (x : Links). IsLinked nodes i x) (sym (none_more links i)) (h i)

leads_still : (nodes : List Node) (node : Node) (i : ℕ) (m : Mark) (child : ℕ) → LeadsTo nodes i m child → LeadsTo (nodes ++ node ∷ []) i m child
leads_still nodes node i m child h =
    let below = h.1.0 in (
      omega (arith, h.0, length-append nodes (node ∷ [])),
      (
        omega (arith, below, length-append nodes (node ∷ [])),
        λ d.
            ap path_of (get_or_append_left nodes (node ∷ []) d child h.1.0) ∙ h.1.1 d ∙ ap (λ (n : Node). path_of n ++ m ∷ [])
            (sym (get_or_append_left nodes (node ∷ []) d i h.0)),
      ),
    )

-- links stay links where a node is added
pub linked_still : (nodes : List Node) (node : Node) (links : List Links) → AreLinked nodes links → AreLinked (nodes ++ node ∷ []) links
linked_still nodes node links h = λ i m. each i m (link_by (get_or links i no_links) m) (h i m)
  where
    each : (i : ℕ) (m : Mark) (o : Option ℕ) → IfSome o (LeadsTo nodes i m) → IfSome o (LeadsTo (nodes ++ node ∷ []) i m)
    each i m None e = e
    each i m (Some child) e = leads_still nodes node i m child e

-- a new node is what a mark leads to
pub leads_new : (nodes : List Node) (node : Node) (i : ℕ) (m : Mark) → i < length nodes
    → ((d : Node) → path_of node ≡ path_of (get_or nodes i d) ++ m ∷ []) → LeadsTo (nodes ++ node ∷ []) i m (length nodes)
leads_new nodes node i m l e = (
  omega (arith, l, length-append nodes (node ∷ [])),
  (
    omega (arith, length-append nodes (node ∷ [])),
    λ d.
        ap path_of (at_end nodes node d) ∙ e d ∙ ap (λ (n : Node). path_of n ++ m ∷ []) (sym (get_or_append_left nodes (node ∷ []) d i l)),
  ),
)

-- a link more
pub linked_put : (nodes : List Node) (links : List Links) (p : ℕ) (m : Mark) (child : ℕ) → p < length links → AreLinked nodes links
    → LeadsTo nodes p m child → AreLinked nodes (slice_set links p (with_link (get_or links p no_links) m child))
linked_put nodes links p m child l h e =
    set_at (λ i x. IsLinked nodes i x) links p (with_link (get_or links p no_links) m child) l (λ i n. h i)
    (put_linked nodes p (get_or links p no_links) m child (h p) e)

-- the links of a node that were read are there whatever stands past the end
pub links_read : (links : List Links) (k : ℕ) (x d : Links) → k < length links → x ≡ get_or links k x → get_or links k d ≡ x
links_read links k x d l e = get_or_default links k d x l ∙ sym e

pub linked_pushed : (nodes : List Node) (links more : List Links) (x : Links) → more ≡ links ++ x ∷ [] → x ≡ no_links → AreLinked nodes links
    → AreLinked nodes more
linked_pushed nodes links more x e n h = subst (λ (ls : List Links). AreLinked nodes ls) (sym (e ∙ ap (λ (y : Links). links ++ y ∷ []) n))
    (linked_more nodes links h)

-- a node more, and the link that leads to it
pub linked_added : (nodes : List Node) (links : List Links) (node : Node) (p : ℕ) (m : Mark) (child : ℕ) (old put : Links) → p < length links
    → AreLinked nodes links → p < length nodes → ((d : Node) → path_of node ≡ path_of (get_or nodes p d) ++ m ∷ [])
    → child ≡ length nodes → old ≡ get_or links p old → put ≡ with_link old m child → AreLinked (nodes ++ node ∷ []) (slice_set links p put)
linked_added nodes links node p m child old put l h below e c o q =
    subst (λ (x : Links). AreLinked (nodes ++ node ∷ []) (slice_set links p x))
    (ap (λ (x : Links). with_link x m (length nodes)) (links_read links p old no_links l o) ∙ ap (λ k. with_link old m k) (sym c) ∙ sym q)
    (linked_put (nodes ++ node ∷ []) links p m (length nodes) l (linked_still nodes node links h) (leads_new nodes node p m below e))
