-- Reach: which commits are ancestors of which. A graph is the list of the parent lists, by place.
use Rattle.std.specs.Prelude.{◌≡◌, ℕ, zero, suc, Bool, ◌||◌, ◌==◌, if◌then◌else◌, List, [], ◌∷◌, length, map, take, Contains}
use Rattle.std.specs.List.{list_any, range_with_len}
use Rattle.bf_graph.specs.Graph.{parents_of}

-- all places of a graph, in order
abbrev pub places : List (List ℕ) → List ℕ
places graph = range_with_len 0 (length graph)

-- the graph that a mode follows: with first_parent it has the first parents alone (git-bisect(1), --first-parent)
abbrev pub in_mode : List (List ℕ) → Bool → List (List ℕ)
in_mode graph first_parent = if first_parent then map (λ parents. take 1 parents) graph else graph

-- the path leads from p to q: each place on it is a parent of the one before
abbrev pub IsPath : List (List ℕ) → ℕ → List ℕ → ℕ → Type 0
IsPath graph p [] q = p ≡ q
IsPath graph p (next ∷ path) q = Contains (parents_of graph p) next × IsPath graph next path q

-- q is p or an ancestor of p: some path leads from p to q
pub record Reaches (graph : List (List ℕ)) (p q : ℕ) : Type 0 where
  pub path : List ℕ
  pub leads : IsPath graph p path q

-- whether a path of at most so many steps leads from p to q
unfoldable pub reaches_within : ℕ → List (List ℕ) → ℕ → ℕ → Bool
reaches_within zero graph p q = p == q
reaches_within (suc steps) graph p q = (p == q) || list_any (λ parent. reaches_within steps graph parent q) (parents_of graph p)

-- Reaches as a test. Each parent is earlier, so a path from p has at most p steps.
unfoldable pub reaches : List (List ℕ) → ℕ → ℕ → Bool
reaches graph p q = reaches_within p graph p q

-- whether some of these places reaches q
unfoldable pub any_reaches : List (List ℕ) → List ℕ → ℕ → Bool
any_reaches graph from q = list_any (λ p. reaches graph p q) from

-- by place, whether p reaches it
unfoldable pub reach_row : List (List ℕ) → ℕ → List Bool
reach_row graph p = map (λ q. reaches graph p q) (places graph)

-- by place, whether some of these places reaches it
unfoldable pub reach_row_of : List (List ℕ) → List ℕ → List Bool
reach_row_of graph from = map (λ q. any_reaches graph from q) (places graph)
