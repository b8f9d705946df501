-- What contracts see of a tree of guesses.
use Rattle.std.specs.Prelude.{◌≡◌, ◌≢◌, ◌↔◌, ℕ, Bool, true, false, IsTrue, if◌then◌else◌, List, [], ◌∷◌, ◌++◌, map, Contains, Option, Some, None}
use Rattle.bf_search.specs.declared.asks.Ask.TheVariants.{WaitBoth}
use Rattle.bf_search.specs.declared.asks.Step.{Step}
use Rattle.bf_search.specs.declared.farm.Claim.{Claim}
use Rattle.bf_search.specs.declared.outcomes.Mark.{Mark}
use Rattle.bf_search.specs.declared.outcomes.Mark.TheVariants.{Skip}
use Rattle.bf_search.specs.declared.outcomes.Outcome.{Outcome}
use Rattle.bf_search.specs.OpenPaths.{OpenPath, best_open, place_of}
use Rattle.bf_search.specs.Outcomes.{outcomes_of_table}
use Rattle.bf_search.specs.Run.{Run, run}
use Rattle.bf_search.specs.State.{Asked}
use Rattle.bf_state.specs.Session.{Session, with_search}
use Rattle.bf_terms.specs.Texts.{standard_sides}
use Rattle.bf_spec.specs.declared.node.Node.{Node}
use Rattle.bf_spec.specs.Nodes.{path_of, IsTree}
use Rattle.bf_spec.specs.Ways.{IsAsked}

-- The graph, the state at the root, which has asked, what was asked there, and the paths that have a node.
pub record Guesses : Type 0 where
  pub graph : List (List ℕ)
  pub session : Session
  pub root : Asked
  pub paths : List (List Mark)

abbrev pub paths_of : List Node → List (List Mark)
paths_of nodes = map path_of nodes

abbrev pub is_empty : List Mark → Bool
is_empty [] = true
is_empty (m ∷ ms) = false

-- a state with its step
pub record Rooted : Type 0 where
  pub session : Session
  pub step : Step

-- some state, for a list without a root
abbrev pub no_root : Rooted
no_root = record {
  session = record {
    len = 0;
    terms = standard_sides;
    terms_open = false;
    search = record { first_parent = false; bad = None; goods = []; skips = []; checked = false; expected = None; bad_asked = false };
  };
  step = record { warned = []; ask = WaitBoth };
}

-- the state and the step of the first node without marks
abbrev pub rooted_of : List Node → Rooted
rooted_of [] = no_root
rooted_of (node ∷ nodes) = if is_empty (path_of node) then record { session = node.state; step = node.step } else rooted_of nodes

abbrev pub session_of : List Node → Session
session_of nodes = (rooted_of nodes).session

abbrev pub root_of : List Node → Asked
root_of nodes = record { search = (rooted_of nodes).session.search; step = (rooted_of nodes).step }

-- the nodes are those of a tree with this root
abbrev pub IsRooted : List (List ℕ) → List Node → Type 0
IsRooted graph nodes = IsTree graph (session_of nodes) (root_of nodes) nodes

-- a path has a node
abbrev pub HasNode : Guesses → List Mark → Type 0
HasNode tree path = Contains tree.paths path

-- the run over the outcomes of a table from the root on, with so many marks left in its leg
abbrev pub run_of : Guesses → List (Option Outcome) → Option ℕ → Run
run_of tree table left = run tree.graph (outcomes_of_table table) left tree.root.search

-- the best open path from the root over the outcomes of a table
abbrev pub best_of : Guesses → List (Option Outcome) → List Claim → Option OpenPath
best_of tree table claims = best_open tree.graph (outcomes_of_table table) claims tree.root.search

-- the place that this path asks for
abbrev pub best_place : Guesses → List (Option Outcome) → List Claim → Option ℕ
best_place tree table claims = place_of (best_of tree table claims)

-- some path from the root over the outcomes of a table asks for a place
abbrev pub IsAskedIn : Guesses → List (Option Outcome) → ℕ → Type 0
IsAskedIn tree table place = IsAsked tree.graph (outcomes_of_table table) tree.root.search place

-- the answer says whether some path from the root asks for a place
abbrev pub TellsIfAsked : List (List ℕ) → List (Option Outcome) → List Node → ℕ → Bool → Type 0
TellsIfAsked graph table nodes place answer = (session : Session) (root : Asked) → IsTree graph session root nodes →
    (IsTrue answer ↔ IsAsked graph (outcomes_of_table table) root.search place)

-- what a path begins with has a node where the path has one
abbrev pub HasBeginnings : Guesses → Type 0
HasBeginnings tree = (begin end : List Mark) → HasNode tree (begin ++ end) → HasNode tree begin

-- the nodes along an open path are there
abbrev pub HasOpenPath : Guesses → Option OpenPath → Type 0
HasOpenPath tree best = (path : OpenPath) → best ≡ Some path → HasNode tree path.marks

-- the state goes on with the search at the new root
abbrev pub MovesSession : Guesses → Guesses → Type 0
MovesSession old new = new.session ≡ with_search old.session new.root.search

-- what stays is what was below a path, without its marks
abbrev pub KeepsNodesBelow : Guesses → List Mark → Guesses → Type 0
KeepsNodesBelow old path new = (more : List Mark) → HasNode new more ↔ HasNode old (path ++ more)

-- a mark is a skip, or the guess at it has no node
abbrev pub LacksNode : Guesses → Mark → Type 0
LacksNode tree m = m ≢ Skip → HasNode tree (m ∷ []) → ⊥
