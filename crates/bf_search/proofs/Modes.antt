-- Lemmas on the graph of a mode: it has the same places, and its paths are paths of the whole graph.
use Rattle.std.proofs.Common.{◌≡◌, ℕ, zero, suc, ◌<◌, ◌≤◌, Bool, true, false, List, [], ◌∷◌, length, get_or, take, map, refl, sym, ◌∙◌, subst, arith}
use Rattle.std.proofs.lemmas.List.{length-map, get_or-take, length-take}
use Rattle.std.proofs.lemmas.List.Elements.{All-take}
use Rattle.std.specs.List.{Contains}
use Rattle.bf_graph.specs.Graph.{parents_of, IsGraph}
use Rattle.bf_search.specs.Reach.{in_mode, IsPath, Reaches}

pub length-in_mode : (graph : List (List ℕ)) (first_parent : Bool) → length (in_mode graph first_parent) ≡ length graph
length-in_mode graph true = length-map graph (λ parents. take 1 parents)
length-in_mode graph false = refl

firsts_of : (graph : List (List ℕ)) (p : ℕ) → get_or (map (λ (parents : List ℕ). take 1 parents) graph) p [] ≡ take 1 (get_or graph p [])
firsts_of [] p = refl
firsts_of (parents ∷ graph) zero = refl
firsts_of (parents ∷ graph) (suc p) = firsts_of graph p

-- along first parents a place has its first parent alone
pub parents_of-in_mode : (graph : List (List ℕ)) (p : ℕ) → parents_of (in_mode graph true) p ≡ take 1 (parents_of graph p)
parents_of-in_mode graph p = firsts_of graph p

pub IsGraph-in_mode : (graph : List (List ℕ)) (first_parent : Bool) → IsGraph graph → IsGraph (in_mode graph first_parent)
IsGraph-in_mode graph true g = record { earlier = λ p. rw (parents_of-in_mode graph p) (All-take (λ parent. parent < p) 1 (parents_of graph p) (g.earlier p)) }
IsGraph-in_mode graph false g = g

pub Contains-take : (xs : List ℕ) (n x : ℕ) → Contains (take n xs) x → Contains xs x
Contains-take xs n x h =
    let within : h.0 < length (take n xs) = h.1 in
    let long : length (take n xs) ≤ n = omega (arith, length-take n xs) in
    let short : length (take n xs) ≤ length xs = omega (arith, length-take n xs) in
    (h.0, omega arith, sym (get_or-take n xs h.0 x (omega arith)) ∙ h.2)

-- a parent in a mode is a parent
pub parent-in_mode : (graph : List (List ℕ)) (first_parent : Bool) (p q : ℕ) → Contains (parents_of (in_mode graph first_parent) p) q
    → Contains (parents_of graph p) q
parent-in_mode graph true p q h = Contains-take (parents_of graph p) 1 q (subst (λ (xs : List ℕ). Contains xs q) (parents_of-in_mode graph p) h)
parent-in_mode graph false p q h = h

IsPath-in_mode : (graph : List (List ℕ)) (first_parent : Bool) (p : ℕ) (path : List ℕ) (q : ℕ) → IsPath (in_mode graph first_parent) p path q
    → IsPath graph p path q
IsPath-in_mode graph first_parent p [] q h = h
IsPath-in_mode graph first_parent p (next ∷ path) q h = (parent-in_mode graph first_parent p next h.0, IsPath-in_mode graph first_parent next path q h.1)

-- what is reached in a mode is reached
pub Reaches-in_mode : (graph : List (List ℕ)) (first_parent : Bool) (p q : ℕ) → Reaches (in_mode graph first_parent) p q → Reaches graph p q
Reaches-in_mode graph first_parent p q h = record { path = h.path; leads = IsPath-in_mode graph first_parent p h.path q h.leads }
