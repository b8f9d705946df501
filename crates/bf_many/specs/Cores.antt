-- What contracts see of the cores of several searches, and what the calls leave of them.
use Rattle.std.specs.Prelude.{◌≡◌, ◌↔◌, ℕ, ◌≤◌, Bool, true, false, List, [], length, map, All, Contains, slice_set, Some, None}
use Rattle.std.specs.List.{AllZip, slice_get}
use Rattle.std.specs.Option.{is_some, option_map_or}
use Rattle.bf_search.specs.declared.farm.Event.{Event}
use Rattle.bf_search.specs.declared.farm.Event.TheVariants.{Claim}
use Rattle.bf_search.specs.declared.outcomes.Outcome.{Outcome}
use Rattle.bf_search.specs.Farm.{stands}
use Rattle.bf_search.specs.Outcomes.{outcomes_of_table}
use Rattle.bf_state.specs.Ends.{HasEnds}
use Rattle.bf_core.specs.Claims.{IsFree}
use Rattle.bf_core.specs.Machine.{Machine, IsConsumed, IsStep, IsLearnt, IsSameButNodes, AreWithdrawn, WantsOutcome, KeepsGuesses, StaysBeside}
use Rattle.bf_core.specs.Machine.{setting_of, farm_of}
use Rattle.bf_many.specs.declared.answers.ManyEvent.{ManyEvent}
use Rattle.bf_many.specs.declared.answers.ManyPick.{ManyPick}
use Rattle.bf_many.specs.declared.answers.ManyPick.TheVariants.{Work, NotYet, Ended}
use Rattle.bf_many.specs.declared.search.ReadySearch.{ReadySearch}
use Rattle.bf_many.specs.Many.{FarmMachine, IsManyStep, has_place}

-- the farm machine of a core
abbrev pub machine_of : Machine → FarmMachine
machine_of core = record { setting = setting_of core; farm = farm_of core }

abbrev pub machines_of : List Machine → List FarmMachine
machines_of cores = map machine_of cores

-- a search at its start: without claims, and without legs
abbrev pub start_of : List (List ℕ) → ReadySearch → FarmMachine
start_of graph s = record {
  setting = record { graph = graph; start = s.state.search; leg = 0 };
  farm = record { table = s.table; claims = [] };
}

abbrev pub starts_of : List (List ℕ) → List ReadySearch → List FarmMachine
starts_of graph searches = map (start_of graph) searches

-- what a search needs: its state and its table have so many places, and both of its ends are known
pub record CanStart (places : ℕ) (s : ReadySearch) : Type 0 where
  pub state : places ≡ s.state.len
  pub table : length s.table ≡ s.state.len
  pub ends : HasEnds s.state.search

-- the facts that the cores of several searches keep
pub record AreCores (cores : List Machine) : Type 0 where
  pub few : length cores ≤ 64
  pub consumed : All IsConsumed cores

-- ---- what the calls leave

-- nothing but nodes has changed in any of them, and none is lost
abbrev pub AreSameButNodes : List Machine → List Machine → Type 0
AreSameButNodes old new = AllZip IsSameButNodes old new

-- one core has changed so, and no other has changed
pub record ChangesOne (So : Machine → Machine → Type 0) (old : List Machine) (k : ℕ) (new : List Machine) : Type 0 where
  pub before : Machine
  pub after : Machine
  pub at : slice_get old k ≡ Some before
  pub so : So before after
  pub rest : new ≡ slice_set old k after

-- the core of a search did this event, which was legal
abbrev pub DoesAt : List Machine → ℕ → Event → List Machine → Type 0
DoesAt old k event new = ChangesOne (λ before after. IsStep before event after) old k new

-- an outcome that the search does not wait for moves its run not
abbrev pub StaysBesideAt : List Machine → ℕ → ℕ → List Machine → Type 0
StaysBesideAt old k p new = ChangesOne (λ before after. StaysBeside before p after) old k new

-- the core of a search has learnt the outcome of a place
abbrev pub LearnsAt : List Machine → ℕ → ℕ → Outcome → List Machine → Type 0
LearnsAt old k p outcome new = ChangesOne (λ before after. IsLearnt before p outcome after) old k new

-- the guesses of a search that come true are kept
abbrev pub KeepsGuessesAt : List Machine → ℕ → List Machine → Type 0
KeepsGuessesAt old k new = ChangesOne KeepsGuesses old k new

-- where it is done a core did this event, which was legal; otherwise nothing but nodes has changed
abbrev pub DoesIf : Machine → Event → Machine → Bool → Type 0
DoesIf old event new true = IsStep old event new
DoesIf old event new false = IsSameButNodes old new

-- whether this claim stands in a search
abbrev pub is_claimed : List Machine → ℕ → ℕ → ℕ → Bool
is_claimed cores k worker p = option_map_or (λ core. stands core.claims worker p) (slice_get cores k) false

-- nobody tests this place in a search, and its outcome is not known there
pub record IsFreeIn (cores : List Machine) (k p : ℕ) : Type 0 where
  pub core : Machine
  pub at : slice_get cores k ≡ Some core
  pub free : IsFree (length core.table) (outcomes_of_table core.table) core.claims p

-- some path of a search asks for the outcome of this place
pub record WantsIn (cores : List Machine) (p k : ℕ) : Type 0 where
  pub core : Machine
  pub at : slice_get cores k ≡ Some core
  pub wants : WantsOutcome core p

-- these are the searches some path of which asks for the outcome of a place
abbrev pub AreWanting : List Machine → ℕ → List ℕ → Type 0
AreWanting cores p searches = (k : ℕ) → Contains searches k ↔ WantsIn cores p k

-- none has an open place
abbrev pub HaveNoPlace : List Machine → Type 0
HaveNoPlace cores = All (λ core. has_place (machine_of core) ≡ false) cores

-- every search has an ending
abbrev pub HaveAllEnded : List Machine → Type 0
HaveAllEnded cores = All (λ core. is_some core.ending ≡ true) cores

-- some search has no ending, and none has an open place
pub record AreAllTaken (cores : List Machine) : Type 0 where
  pub core : Machine
  pub which : ℕ
  pub at : slice_get cores which ≡ Some core
  pub goes_on : core.ending ≡ None
  pub none : HaveNoPlace cores

-- what a pick leaves: work is a claim that was legal; otherwise nothing but nodes has changed
abbrev pub Picks : List Machine → ℕ → List Machine → ManyPick → Type 0
Picks old worker new (Work k p) = IsManyStep (machines_of old) (record { search = k; event = Claim worker p }) (machines_of new)
Picks old worker new NotYet = AreSameButNodes old new
Picks old worker new Ended = AreSameButNodes old new

-- these are the workers whose claimed place no path of this search asks for
abbrev pub AreWithdrawnIn : List Machine → ℕ → List ℕ → Type 0
AreWithdrawnIn cores k workers = (core : Machine) → slice_get cores k ≡ Some core → AreWithdrawn core workers

-- where it is done the event was legal; otherwise nothing but nodes has changed
abbrev pub StepsIf : List Machine → ManyEvent → List Machine → Bool → Type 0
StepsIf old e new true = IsManyStep (machines_of old) e (machines_of new)
StepsIf old e new false = AreSameButNodes old new
