-- The nodes of a tree of guesses.
use Rattle.std.specs.Prelude.{◌≡◌, ◌≢◌, ◌↔◌, ℕ, ◌<◌, ◌≤◌, Bool, ◌||◌, ◌&&◌, ◌==◌, nat_lt, if◌then◌else◌}
use Rattle.std.specs.Prelude.{List, [], ◌∷◌, ◌++◌, length, slice_get, All, Contains, Option, Some, None}
use Rattle.std.specs.List.{slice_index_or}
use Rattle.bf_graph.specs.Graph.{IsGraph}
use Rattle.bf_search.specs.declared.asks.Ask.TheVariants.{Test}
use Rattle.bf_search.specs.declared.outcomes.Mark.{Mark}
use Rattle.bf_search.specs.declared.outcomes.Mark.TheVariants.{Skip}
use Rattle.bf_search.specs.declared.outcomes.Outcome.{Outcome}
use Rattle.bf_search.specs.Outcomes.{Outcomes, outcomes_of_table}
use Rattle.bf_search.specs.State.{Asked, ask}
use Rattle.bf_state.specs.Session.{Session, with_search, IsSearchBelow}
use Rattle.bf_search.specs.declared.farm.Claim.{Claim}
use Rattle.bf_search.specs.LeftToAsk.{left_to_ask}
use Rattle.bf_search.specs.OpenPaths.{OpenPath, left_of, best_open}
use Rattle.bf_spec.specs.declared.node.Node.{Node}
use Rattle.bf_spec.specs.declared.walk.Found.{Found}
use Rattle.bf_spec.specs.declared.walk.Stop.{Stop}
use Rattle.bf_spec.specs.declared.walk.Stop.TheVariants.{Ended, Free, Guess}
use Rattle.bf_spec.specs.declared.walk.Look.TheVariants.{Guess as LookGuess}
use Rattle.bf_spec.specs.declared.walk.Visit.{Visit}
use Rattle.bf_spec.specs.declared.walk.Visit.TheVariants.{Leaf, Fork}
use Rattle.bf_state.specs.Ends.{HasEnds}
use Rattle.bf_spec.specs.Guessed.{next_asked, asked_at, IsSettled, prefixed, look_of}
use Rattle.bf_spec.specs.Sights.{IsSight}

abbrev pub path_of : Node → List Mark
path_of node = node.path.items

abbrev pub asked_of : Node → Asked
asked_of node = record { search = node.state.search; step = node.step }

-- some node has this path
pub record HasPath (nodes : List Node) (path : List Mark) : Type 0 where
  pub node : Node
  pub among : Contains nodes node
  pub has : path_of node ≡ path

-- The rule of a node: what it asked is what is asked at the end of its path, and what it has in sight are the candidates there.
pub record IsNode (graph : List (List ℕ)) (base : Session) (root : Asked) (node : Node) : Type 0 where
  pub asked : asked_of node ≡ asked_at graph root (path_of node)
  pub session : node.state ≡ with_search base node.state.search
  pub sight : IsSight graph node.state.search node.sight
  pub below : IsSearchBelow (length graph) node.state.search
  pub ends : HasEnds node.state.search

-- a node that follows another by one mark
pub record IsChild (graph : List (List ℕ)) (parent : Node) (m : Mark) (child : Node) : Type 0 where
  pub path : path_of child ≡ path_of parent ++ m ∷ []
  pub asked : asked_of child ≡ next_asked graph (asked_of parent) m
  pub session : child.state ≡ with_search parent.state child.state.search
  pub sight : IsSight graph child.state.search child.sight
  pub below : IsSearchBelow (length graph) child.state.search

-- The nodes of a tree: the first is the root, each follows the rule, and before each stands the one that it follows.
pub record IsTree (graph : List (List ℕ)) (session : Session) (root : Asked) (nodes : List Node) : Type 0 where
  pub parents : IsGraph graph
  pub len : session.len ≡ length graph
  pub settled : IsSettled graph root
  pub rooted : HasPath nodes []
  pub each : All (λ node. IsNode graph session root node) nodes
  pub closed : (path : List Mark) (m : Mark) → HasPath nodes (path ++ m ∷ []) → HasPath nodes path

-- the nodes are those of a tree
pub record AreNodes (graph : List (List ℕ)) (nodes : List Node) : Type 0 where
  pub session : Session
  pub root : Asked
  pub tree : IsTree graph session root nodes

-- a node alone is the tree of a search that asks
abbrev pub IsFirst : List (List ℕ) → Session → Node → Type 0
IsFirst graph session node = IsTree graph session (ask graph session.search) (node ∷ [])

-- the root asks for some place
abbrev pub RootAsks : List (List ℕ) → List Node → Type 0
RootAsks graph nodes = (p : ℕ) × ((session : Session) (root : Asked) → IsTree graph session root nodes → root.step.ask ≡ Test p)

-- the root moves on by a mark
abbrev pub MovesRoot : List (List ℕ) → List Node → Mark → List Node → Type 0
MovesRoot graph old m new = (session : Session) (root : Asked) → IsTree graph session root old → IsTree graph session (next_asked graph root m) new

-- the root moves on to the end of a path
abbrev pub MovesRootAlong : List Node → List Mark → List Node → Type 0
MovesRootAlong old path new =
    (graph : List (List ℕ)) (session : Session) (root : Asked) → IsTree graph session root old → IsTree graph session (asked_at graph root path) new

-- what stays is what was below a path, without its marks
abbrev pub KeepsPathsBelow : List Node → List Mark → List Node → Type 0
KeepsPathsBelow old path new = (more : List Mark) → HasPath new more ↔ HasPath old (path ++ more)

-- a mark is a skip, or the guess at it has no node
abbrev pub LacksGuess : List Node → Mark → Type 0
LacksGuess nodes m = m ≢ Skip → HasPath nodes (m ∷ []) → ⊥

-- a tree stays a tree, with the same root
abbrev pub StaysTree : List (List ℕ) → List Node → List Node → Type 0
StaysTree graph old new = (session : Session) (root : Asked) → IsTree graph session root old → IsTree graph session root new

-- the nodes with some more
pub record Grows (old new : List Node) : Type 0 where
  pub more : List Node
  pub grown : new ≡ old ++ more

-- what was there is there still, at its index, and a tree stays a tree
pub record Extends (graph : List (List ℕ)) (old new : List Node) : Type 0 where
  pub grows : Grows old new
  pub stays : StaysTree graph old new

-- ---- nodes by their indices

-- the node at an index has this path
abbrev pub IsAt : List Node → List Mark → ℕ → Type 0
IsAt nodes path i = (i < length nodes) × ((d : Node) → path_of (slice_index_or nodes i d) ≡ path)

-- the node at an index asks for a place
abbrev pub AsksFor : List Node → ℕ → ℕ → Type 0
AsksFor nodes i place = (d : Node) → (slice_index_or nodes i d).step.ask ≡ Test place

-- the path of a node leads on from that of another one by a mark
abbrev pub Follows : List Node → ℕ → Mark → List Node → ℕ → Type 0
Follows old parent m new child =
    (child < length new) × ((d : Node) → path_of (slice_index_or new child d) ≡ path_of (slice_index_or old parent d) ++ m ∷ [])

-- ---- open paths

-- the best open path that goes through a node, from the root
abbrev pub best_at : List (List ℕ) → Outcomes → List Claim → Node → Option OpenPath
best_at graph known claims node = prefixed (path_of node) (best_open graph known claims node.state.search)

-- what was found is this path, and its node is there
abbrev pub IsFound : List Node → Option Found → Option OpenPath → Type 0
IsFound nodes None None = Unit {0}
IsFound nodes (Some found) None = ⊥
IsFound nodes None (Some path) = ⊥
IsFound nodes (Some found) (Some path) = (found.place ≡ path.place) × (found.left ≡ path.left) × (found.depth ≡ length path.marks) × HasPath nodes path.marks

-- how many places may still be asked below a node
abbrev pub left_below : List (List ℕ) → Option Node → ℕ
left_below graph None = 0
left_below graph (Some node) = left_to_ask graph node.state.search

abbrev pub left_at : List (List ℕ) → List Node → ℕ → ℕ
left_at graph nodes i = left_below graph (slice_get nodes i)

-- where a walk along known outcomes stops
abbrev pub Stops : List (List ℕ) → Outcomes → List Claim → List Node → Stop → ℕ → Option OpenPath → Type 0
Stops graph known claims nodes Ended most best = best ≡ None
Stops graph known claims nodes (Free i p) most best = (i < length nodes) × ((d : Node) → let node = slice_index_or nodes i d in
    best ≡ Some (record { marks = path_of node; place = p; left = left_of graph node.state.search }))
Stops graph known claims nodes (Guess i p) most best = (i < length nodes) × (left_at graph nodes i ≤ most)
    × ((d : Node) → (best ≡ best_at graph known claims (slice_index_or nodes i d)) × (look_of known claims (slice_index_or nodes i d).step.ask ≡ LookGuess p))

-- what is known of a search from outside of its nodes
pub record Known : Type 0 where
  pub graph : List (List ℕ)
  pub outcomes : Outcomes
  pub claims : List Claim

-- what is known by a table of outcomes
abbrev pub known_by : List (List ℕ) → List (Option Outcome) → List Claim → Known
known_by graph table claims = record { graph = graph; outcomes = outcomes_of_table table; claims = claims }

-- a walk from a node along known outcomes stops there
abbrev pub StopsFrom : Known → List Node → ℕ → List Node → Stop → Type 0
StopsFrom known old start new stop = (d : Node) →
    Stops known.graph known.outcomes known.claims new stop (left_at known.graph old start)
    (best_at known.graph known.outcomes known.claims (slice_index_or old start d))

-- the second one has more candidates left or, where as many are left, is shorter
abbrev pub path_wins : OpenPath → OpenPath → Bool
path_wins bad good = nat_lt good.left bad.left || ((bad.left == good.left) && nat_lt (length bad.marks) (length good.marks))

-- the better one of two paths, of which the first one comes first where neither wins
abbrev pub better_path : Option OpenPath → Option OpenPath → Option OpenPath
better_path None bad = bad
better_path (Some good) None = Some good
better_path (Some good) (Some bad) = if path_wins bad good then Some bad else Some good

-- what a visit tells of the best open path: it is that below one of two nodes, where fewer places may be asked
abbrev pub Visits : Known → List Node → Node → Visit → ℕ → Option OpenPath → Type 0
Visits known nodes d (Leaf found) most best = IsFound nodes found best
Visits known nodes d (Fork good bad) most best =
    (good < length nodes) × (bad < length nodes) × (left_at known.graph nodes good < most) × (left_at known.graph nodes bad < most)
    × (best ≡ better_path (best_at known.graph known.outcomes known.claims (slice_index_or nodes good d))
    (best_at known.graph known.outcomes known.claims (slice_index_or nodes bad d)))

-- a visit to a node tells of its best open path
abbrev pub VisitsFrom : Known → List Node → ℕ → List Node → Visit → Type 0
VisitsFrom known old start new visit = (d : Node) →
    Visits known new d visit (left_at known.graph old start) (best_at known.graph known.outcomes known.claims (slice_index_or old start d))

-- what was found is the best open path through a node
abbrev pub IsBestFrom : Known → List Node → ℕ → List Node → Option Found → Type 0
IsBestFrom known old start new found = (d : Node) →
    IsFound new found (best_at known.graph known.outcomes known.claims (slice_index_or old start d))

-- what was found is the best open path from the root
abbrev pub IsBest : Known → List Node → List Node → Option Found → Type 0
IsBest known old new found = (session : Session) (root : Asked) → IsTree known.graph session root old →
    IsFound new found (best_open known.graph known.outcomes known.claims root.search)

-- the better one of what was found below the two guesses
abbrev pub wins : Found → Found → Bool
wins bad good = nat_lt good.left bad.left || ((bad.left == good.left) && nat_lt bad.depth good.depth)

abbrev pub better_found : Option Found → Option Found → Option Found
better_found None bad = bad
better_found (Some good) None = Some good
better_found (Some good) (Some bad) = if wins bad good then Some bad else Some good
