-- What contracts see of a core, and what its calls leave of it.
use Rattle.std.specs.Prelude.{◌≡◌, ◌≢◌, ◌↔◌, ℕ, ◌<◌, Bool, false, length, List, [], ◌∷◌, ◌++◌, slice_set, Contains, Option, Some, None, Result, Err, IsTrue}
use Rattle.bf_graph.specs.Graph.{IsGraph}
use Rattle.bf_search.specs.declared.entries.Entry.{Entry}
use Rattle.bf_search.specs.declared.farm.Claim.{Claim}
use Rattle.bf_search.specs.declared.farm.Ending.{Ending}
use Rattle.bf_search.specs.declared.farm.Event.{Event}
use Rattle.bf_search.specs.declared.farm.Event.TheVariants.{Claim as Claimed, Post as Posted, Give as Given}
use Rattle.bf_search.specs.declared.outcomes.Mark.{Mark}
use Rattle.bf_search.specs.declared.outcomes.Outcome.{Outcome}
use Rattle.bf_search.specs.Outcomes.{outcomes_of_table}
use Rattle.bf_search.specs.State.{IsSearchOver}
use Rattle.bf_search.specs.Run.{Open, Run}
use Rattle.bf_search.specs.OpenPaths.{OpenPath, best_open}
use Rattle.bf_search.specs.Farm.{Setting, Farm, consumed, best_place, has_claim, step}
use Rattle.bf_state.specs.Session.{Session, with_search}
use Rattle.bf_spec.specs.Walks.{Tells}
use Rattle.bf_state.specs.Ends.{marks_of}
use Rattle.bf_spec.specs.Ways.{IsAsked}
use Rattle.bf_core.specs.declared.answers.ApplyFault.{ApplyFault}
use Rattle.bf_core.specs.declared.answers.ApplyFault.TheVariants.{Illegal}
use Rattle.bf_core.specs.declared.answers.Pick.{Pick}
use Rattle.bf_core.specs.declared.answers.Pick.TheVariants.{Work}
use Rattle.bf_core.specs.declared.consuming.Consumed.{Consumed}
use Rattle.bf_core.specs.Claims.{IsFree, KeepsNodes, has_ended}
use Rattle.bf_core.specs.Consuming.{marks_since}

-- The graph, the session and the length of the legs that it started with; its table and claims; the entries, the
-- state and the ending of its run; and the paths of its guesses that have a node.
pub record Machine : Type 0 where
  pub graph : List (List ℕ)
  pub first : Session
  pub leg : ℕ
  pub table : List (Option Outcome)
  pub claims : List Claim
  pub entries : List Entry
  pub state : Session
  pub ending : Option Ending
  pub paths : List (List Mark)

-- what is seen of the parts of a core
abbrev pub seen : Session → ℕ → List (Option Outcome) → List Claim → Consumed → Machine
seen first leg table claims run = record {
  graph = run.tree.graph;
  first = first;
  leg = leg;
  table = table;
  claims = claims;
  entries = run.entries.items;
  state = run.state;
  ending = run.ending;
  paths = run.tree.paths;
}

abbrev pub setting_of : Machine → Setting
setting_of core = record { graph = core.graph; start = core.first.search; leg = core.leg }

abbrev pub farm_of : Machine → Farm
farm_of core = record { table = core.table; claims = core.claims }

-- the graph is one, and the places of the search that it started with are its places
pub record IsOverGraph (setting : Setting) : Type 0 where
  pub parents : IsGraph setting.graph
  pub places : IsSearchOver setting.graph setting.start

-- the run on the outcomes that are known
abbrev pub run_of : Machine → Run
run_of core = consumed (setting_of core) core.table

-- Entries, state and ending are those of the run.
pub record IsConsumed (core : Machine) : Type 0 where
  pub entries : core.entries ≡ (run_of core).entries
  pub state : core.state ≡ with_search core.first (run_of core).search
  pub ending : Tells core.ending (run_of core).end

-- a core that has just started
pub record IsStarted (graph : List (List ℕ)) (first : Session) (table : List (Option Outcome)) (leg : ℕ) (core : Machine) : Type 0 where
  pub on_graph : core.graph ≡ graph
  pub from : core.first ≡ first
  pub on_table : core.table ≡ table
  pub in_legs : core.leg ≡ leg
  pub no_claims : core.claims ≡ []

-- the event is legal, and this is what it leaves
pub record IsStep (old : Machine) (event : Event) (new : Machine) : Type 0 where
  pub farm : step (setting_of old) (farm_of old) event ≡ Some (farm_of new)
  pub setting : setting_of new ≡ setting_of old
  pub first : new.first ≡ old.first

-- the table has the outcome of the place, and the claims stand as they were
pub record IsLearnt (old : Machine) (p : ℕ) (outcome : Outcome) (new : Machine) : Type 0 where
  pub farm : farm_of new ≡ record (farm_of old) { table = slice_set old.table p (Some outcome) }
  pub setting : setting_of new ≡ setting_of old
  pub first : new.first ≡ old.first

-- nothing but nodes has changed, and none is lost
pub record IsSameButNodes (old new : Machine) : Type 0 where
  pub same : new ≡ record old { paths = new.paths }
  pub kept : KeepsNodes old.paths [] new.paths

-- there is no ending, and no path is open
pub record IsAllTaken (core : Machine) : Type 0 where
  pub goes_on : core.ending ≡ None
  pub none_open : best_place (setting_of core) (farm_of core) ≡ None

-- the claims with that of a pick
abbrev pub claims_after : List Claim → ℕ → Pick → List Claim
claims_after claims worker (Work p) = claims ++ (record { worker = worker; place = p }) ∷ []
claims_after claims worker other = claims

-- the best open path, where there is no ending
abbrev pub best_path : Machine → Option OpenPath
best_path core = best_open core.graph (outcomes_of_table core.table) core.claims core.state.search

-- some path asks for the place; where the search has ended there is no path, and behind a leg it goes on
pub record IsWanted (core : Machine) (p : ℕ) : Type 0 where
  pub goes_on : has_ended core.ending ≡ false
  pub asked : IsAsked core.graph (outcomes_of_table core.table) core.state.search p

-- some path asks for the outcome of the place, and it is not known
pub record WantsOutcome (core : Machine) (p : ℕ) : Type 0 where
  pub unknown : outcomes_of_table core.table p ≡ None
  pub wanted : IsWanted core p

-- a worker whose claimed place no path asks for
pub record IsWithdrawn (core : Machine) (worker : ℕ) : Type 0 where
  pub claim : Claim
  pub among : Contains core.claims claim
  pub by : claim.worker ≡ worker
  pub dropped : ¬ IsWanted core claim.place

-- neither entries nor state nor ending has changed
pub record IsUnmoved (old new : Machine) : Type 0 where
  pub entries : new.entries ≡ old.entries
  pub state : new.state ≡ old.state
  pub ending : new.ending ≡ old.ending

-- the event that is told is this one, and it is not legal
pub record IsRefused (core : Machine) (event told : Event) : Type 0 where
  pub same : told ≡ event
  pub not_legal : step (setting_of core) (farm_of core) event ≡ None

-- an event that is answered as illegal is the one that was asked for, and it is not legal
abbrev pub RefusesIllegal : {T : Type 0} → Machine → Event → Result T ApplyFault → Type 0
RefusesIllegal core event result = (told : Event) → result ≡ Err (Illegal told) → IsRefused core event told

-- a claim may be legal: the run goes on, the worker has no claim, and the place is free
pub record MayClaim (core : Machine) (worker p : ℕ) : Type 0 where
  pub goes_on : core.ending ≡ None
  pub idle : has_claim core.claims worker ≡ false
  pub free : IsFree (length core.table) (outcomes_of_table core.table) core.claims p

-- What a refused claim leaves: nothing but nodes has changed, and none is lost. One that could not be legal has changed
-- nothing; any other is refused as the best open place is another, and looking for that one may make nodes.
pub record LeavesClaim (old : Machine) (worker p : ℕ) (new : Machine) : Type 0 where
  pub nodes : IsSameButNodes old new
  pub at_once : ¬ MayClaim old worker p → new ≡ old

-- what a refused event leaves: a post and a giving back change nothing
abbrev pub LeavesRefused : Machine → Event → Machine → Type 0
LeavesRefused old (Claimed worker p) new = LeavesClaim old worker p new
LeavesRefused old (Posted worker p outcome) new = new ≡ old
LeavesRefused old (Given worker p) new = new ≡ old

-- an event that is answered as illegal leaves what a refused one does
abbrev pub StaysIfIllegal : {T : Type 0} → Machine → Event → Machine → Result T ApplyFault → Type 0
StaysIfIllegal old event new result = (told : Event) → result ≡ Err (Illegal told) → LeavesRefused old event new

-- a leg has an end, and so many marks were made
pub record IsLegOver (core : Machine) : Type 0 where
  pub has_end : 0 < core.leg
  pub made : length (marks_of core.entries) ≡ core.leg

-- ---- what the calls leave

-- a pick that gives work has claimed it
abbrev pub ClaimsWork : Machine → ℕ → Machine → Pick → Type 0
ClaimsWork old worker new (Work p) = IsStep old (Claimed worker p) new
ClaimsWork old worker new other = Unit {0}

-- where it is done, a worker has claimed a place
abbrev pub ClaimsIf : Machine → ℕ → ℕ → Machine → Bool → Type 0
ClaimsIf old worker p new done = IsTrue done → IsStep old (Claimed worker p) new

-- where it is done, nothing but claims and nodes has changed
abbrev pub LeavesRestIf : Machine → Machine → Bool → Type 0
LeavesRestIf old new done = IsTrue done → new ≡ record old { claims = new.claims; paths = new.paths }

-- where it is not done, the claim of this place by a worker is not legal
abbrev pub IsIllegalUnless : Machine → ℕ → ℕ → Bool → Type 0
IsIllegalUnless core worker p done = done ≡ false → step (setting_of core) (farm_of core) (Claimed worker p) ≡ None

-- nothing but nodes and the claim of a pick has changed
abbrev pub LeavesPick : Machine → ℕ → Machine → Pick → Type 0
LeavesPick old worker new pick = new ≡ record old { claims = claims_after old.claims worker pick; paths = new.paths }

-- where there is no ending, the best open path has a node
abbrev pub HasBestNode : Machine → Machine → Type 0
HasBestNode old new =
    (path : OpenPath) → old.ending ≡ None → best_path old ≡ Some path → Contains new.paths path.marks

-- A path has a node where the marks that were made, followed by it, had one.
abbrev pub KeepsGuesses : Machine → Machine → Type 0
KeepsGuesses old new = KeepsNodes old.paths (marks_since old.entries new.entries) new.paths

-- where the run does not wait for this place, nothing of it changes
abbrev pub StaysBeside : Machine → ℕ → Machine → Type 0
StaysBeside old p new = (run_of old).end ≢ Open p → IsUnmoved old new

-- these are the workers whose claimed place no path asks for
abbrev pub AreWithdrawn : Machine → List ℕ → Type 0
AreWithdrawn core workers = (worker : ℕ) → Contains workers worker ↔ IsWithdrawn core worker
