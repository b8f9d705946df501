-- What a board tells of its core.
use Rattle.std.specs.Prelude.{◌≡◌, ◌↔◌, ℕ, true, false, List, [], length, Contains, Some, None}
use Rattle.std.specs.List.Sorted.{IsStrictlyIncreasing}
use Rattle.bf_search.specs.declared.farm.Claim.{Claim}
use Rattle.bf_search.specs.declared.farm.Event.TheVariants as events
use Rattle.bf_search.specs.Farm.{Setting, Farm, consumed, step, best_place}
use Rattle.bf_search.specs.Outcomes.{outcomes_of_table}
use Rattle.bf_search.specs.Run.{Run}
use Rattle.bf_spec.specs.Ways.{IsAsked}
use Rattle.bf_state.specs.Runs.{is_open}
use Rattle.bf_state.specs.Session.{Session, with_search}
use Rattle.bf_core.specs.declared.answers.Pick.{Pick}
use Rattle.bf_core.specs.declared.answers.Pick.TheVariants.{Work, NotYet, Ended}
use Rattle.bf_core.specs.declared.answers.Withdrawn.{Withdrawn}
use Rattle.bf_core.specs.Claims.{GoesOn}
use Rattle.bf_core.specs.Machine.{Machine, setting_of, farm_of}

-- a run from the search of a session
abbrev pub setting_at : List (List ℕ) → Session → ℕ → Setting
setting_at graph first leg = record { graph = graph; start = first.search; leg = leg }

-- what it started with, the session that it started from, and its table and claims
pub record CoreView : Type 0 where
  pub setting : Setting
  pub first : Session
  pub farm : Farm

abbrev pub view_of : Machine → CoreView
view_of core = record { setting = setting_of core; first = core.first; farm = farm_of core }

-- the run on the outcomes of the table
abbrev pub run_of : CoreView → Run
run_of core = consumed core.setting core.farm.table

-- the session that its run reached
abbrev pub state_of : CoreView → Session
state_of core = with_search core.first (run_of core).search

-- it started with the same
pub record IsSameStart (old new : CoreView) : Type 0 where
  pub setting : new.setting ≡ old.setting
  pub first : new.first ≡ old.first

-- their tables have the same length
abbrev pub IsSameLength : CoreView → CoreView → Type 0
IsSameLength old new = length new.farm.table ≡ length old.farm.table

-- what a pick does: work claims the best open place; otherwise nothing changes
abbrev pub Picks : CoreView → CoreView → ℕ → Pick → Type 0
Picks old new worker (Work p) = step old.setting old.farm (events.Claim worker p) ≡ Some new.farm
Picks old new worker NotYet = (new.farm ≡ old.farm) × (best_place old.setting old.farm ≡ None) × (is_open (run_of old).end ≡ true)
Picks old new worker Ended = (new.farm ≡ old.farm) × (is_open (run_of old).end ≡ false)

-- where the run waits for an outcome, or its leg is over, some path asks for the place
pub record IsWanted (core : CoreView) (p : ℕ) : Type 0 where
  pub goes_on : GoesOn (run_of core).end
  pub asked : IsAsked core.setting.graph (outcomes_of_table core.farm.table) (run_of core).search p

-- a worker whose claimed place no path asks for
pub record IsWithdrawn (core : CoreView) (worker : ℕ) : Type 0 where
  pub claim : Claim
  pub among : Contains core.farm.claims claim
  pub by : claim.worker ≡ worker
  pub dropped : ¬ IsWanted core claim.place

-- these are the workers whose claimed place no path asks for
abbrev pub AreWithdrawn : CoreView → List ℕ → Type 0
AreWithdrawn core workers = (worker : ℕ) → Contains workers worker ↔ IsWithdrawn core worker

-- the workers are ascending
abbrev pub IsAscending : Withdrawn → Type 0
IsAscending withdrawn = IsStrictlyIncreasing withdrawn.workers.items

-- there are none
abbrev pub WithdrawsNone : Withdrawn → Type 0
WithdrawsNone withdrawn = withdrawn.workers.items ≡ []
