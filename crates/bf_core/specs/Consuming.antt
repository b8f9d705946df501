-- What a core has consumed: a run, with the tree of guesses from where it stands.
use Rattle.std.specs.Prelude.{◌≡◌, ◌↔◌, ℕ, false, List, ◌++◌, length, drop, Contains, Option, Some, None}
use Rattle.bf_graph.specs.Graph.{IsGraph}
use Rattle.bf_search.specs.declared.entries.Entry.{Entry}
use Rattle.bf_search.specs.declared.farm.Claim.{Claim}
use Rattle.bf_search.specs.declared.farm.Ending.{Ending}
use Rattle.bf_search.specs.declared.outcomes.Mark.{Mark}
use Rattle.bf_search.specs.declared.outcomes.Outcome.{Outcome}
use Rattle.bf_search.specs.Outcomes.{outcomes_of_table}
use Rattle.bf_search.specs.State.{Search, IsSearchOver, ask}
use Rattle.bf_search.specs.Run.{Open, Run, leg_of, left_after}
use Rattle.bf_search.specs.OpenPaths.{OpenPath, best_open, place_of}
use Rattle.bf_search.specs.Farm.{Setting, consumed}
use Rattle.bf_state.specs.Runs.{IsPartOf}
use Rattle.bf_state.specs.Session.{Session, with_search}
use Rattle.bf_spec.specs.Walks.{Tells}
use Rattle.bf_spec.specs.Tree.{Guesses, HasNode}
use Rattle.bf_spec.specs.Guessed.{asked_at}
use Rattle.bf_state.specs.Ends.{marks_of}
use Rattle.bf_spec.specs.Ways.{IsAsked}
use Rattle.bf_spec.specs.declared.follow.Walked.{Walked}
use Rattle.bf_core.specs.declared.consuming.Consumed.{Consumed}
use Rattle.bf_core.specs.Claims.{AreClaims, KeepsNodes, IsSameTree, has_ended}

-- the marks that were made since, by the entries
abbrev pub marks_since : List Entry → List Entry → List Mark
marks_since old new = marks_of (drop (length old) new)

-- while the run waits, the tree goes on from where it stands, and the leg has so many marks left
pub record IsAtRoot (setting : Setting) (run : Run) (core : Consumed) : Type 0 where
  pub search : core.tree.root.search ≡ run.search
  pub left : core.left ≡ left_after (leg_of setting.leg) (length run.used)

-- the root of the tree has asked, from the search that the run reached on: also where a leg is over
abbrev pub HasAsked : Consumed → Type 0
HasAsked core = core.tree.root.search ≡ (ask core.tree.graph core.state.search).search

-- This is what a run has come to, from the first search of a session.
pub record IsRun (setting : Setting) (first : Session) (run : Run) (core : Consumed) : Type 0 where
  pub graph : core.tree.graph ≡ setting.graph
  pub session : first ≡ with_search core.tree.session setting.start
  pub entries : core.entries.items ≡ run.entries
  pub state : core.state ≡ with_search first run.search
  pub ending : Tells core.ending run.end
  pub waits : (p : ℕ) → run.end ≡ Open p → IsAtRoot setting run core
  pub asked : HasAsked core

-- the run on the outcomes of a table
abbrev pub IsRunOn : Setting → Session → List (Option Outcome) → Consumed → Type 0
IsRunOn setting first table core = IsRun setting first (consumed setting table) core

-- nothing but nodes of the tree has changed, and none is lost
pub record IsSameRun (old new : Consumed) : Type 0 where
  pub tree : IsSameTree old.tree new.tree
  pub entries : new.entries.items ≡ old.entries.items
  pub state : new.state ≡ old.state
  pub ending : new.ending ≡ old.ending
  pub left : new.left ≡ old.left

-- a walk was added to these entries, and the root of this tree is at its end
pub record IsJoined (tree : Guesses) (before : List Entry) (marks : Option ℕ) (walked : Walked) (new : Consumed) : Type 0 where
  pub graph : new.tree.graph ≡ tree.graph
  pub session : new.tree.session ≡ with_search tree.session new.tree.root.search
  pub root : new.tree.root ≡ asked_at tree.graph tree.root walked.path.items
  pub nodes : KeepsNodes tree.paths walked.path.items new.tree.paths
  pub entries : new.entries.items ≡ before ++ walked.entries.items
  pub state : new.state ≡ walked.state
  pub ending : new.ending ≡ walked.ending
  pub left : new.left ≡ left_after marks (length walked.path.items)

-- a walk was added to a run
abbrev pub IsJoinedTo : Consumed → Walked → Consumed → Type 0
IsJoinedTo old walked new = IsJoined old.tree old.entries.items old.left walked new

-- A path has a node where the marks that were made since, followed by it, had one.
abbrev pub KeepsNodesAhead : Consumed → Consumed → Type 0
KeepsNodesAhead old new = KeepsNodes old.tree.paths (marks_since old.entries.items new.entries.items) new.tree.paths

-- the run on a table, from the search whose ask is the root of a tree
abbrev pub Begins : Guesses → List (Option Outcome) → ℕ → Consumed → Type 0
Begins tree table leg core =
    (s : Search) → IsGraph tree.graph → IsSearchOver tree.graph s → tree.root ≡ ask tree.graph s
    → IsRunOn (record { graph = tree.graph; start = s; leg = leg }) (with_search tree.session s) table core

-- a run on some outcomes is the run on those of a table, which has them all
abbrev pub Consumes : Consumed → List (Option Outcome) → Consumed → Type 0
Consumes old table new =
    (setting : Setting) (first : Session) (before : List (Option Outcome)) → IsGraph setting.graph → IsSearchOver setting.graph setting.start
    → IsPartOf (outcomes_of_table before) (outcomes_of_table table) → IsRunOn setting first before old → IsRunOn setting first table new

-- the best open place from the root
abbrev pub best_at : Option Ending → Guesses → List (Option Outcome) → List Claim → Option ℕ
best_at None tree table claims = place_of (best_open tree.graph (outcomes_of_table table) claims tree.root.search)
best_at (Some ending) tree table claims = None

abbrev pub GivesBest : Consumed → List (Option Outcome) → List Claim → Option ℕ → Type 0
GivesBest core table claims place = place ≡ best_at core.ending core.tree table claims

-- where the run has not ended, the best open path from the root has a node
abbrev pub HasNodeOfBest : Consumed → List (Option Outcome) → List Claim → Consumed → Type 0
HasNodeOfBest old table claims new =
    (path : OpenPath) → old.ending ≡ None
    → best_open old.tree.graph (outcomes_of_table table) claims old.tree.root.search ≡ Some path → HasNode new.tree path.marks

-- some path from where the run stands asks for the place, and the search has no end
pub record Asks (core : Consumed) (table : List (Option Outcome)) (p : ℕ) : Type 0 where
  pub goes_on : has_ended core.ending ≡ false
  pub asked : IsAsked core.tree.graph (outcomes_of_table table) core.state.search p

-- a worker whose claimed place no path asks for
pub record IsUnwanted (core : Consumed) (table : List (Option Outcome)) (claims : List Claim) (worker : ℕ) : Type 0 where
  pub claim : Claim
  pub among : Contains claims claim
  pub by : claim.worker ≡ worker
  pub unwanted : has_ended core.ending ≡ false → ¬ IsAsked core.tree.graph (outcomes_of_table table) core.state.search claim.place

-- these are the workers whose claimed place no path asks for
abbrev pub AreUnwanted : Consumed → List (Option Outcome) → List Claim → List ℕ → Type 0
AreUnwanted core table claims workers = (worker : ℕ) → Contains workers worker ↔ IsUnwanted core table claims worker

-- The facts that a core keeps.
pub record IsCore (first : Session) (leg : ℕ) (table : List (Option Outcome)) (claims : List Claim) (core : Consumed) : Type 0 where
  pub parents : IsGraph core.tree.graph
  pub over : IsSearchOver core.tree.graph first.search
  pub len : length table ≡ length core.tree.graph
  pub run : IsRunOn (record { graph = core.tree.graph; start = first.search; leg = leg }) first table core
  pub standing : AreClaims table claims
