-- What workers share: a core, with the history that led to it.
use Rattle.std.specs.Prelude.{◌≡◌, ℕ, Bool, true, false, ◌==◌, List, [], ◌∷◌, ◌++◌, find, Option, Some, None}
use Rattle.std.specs.Option.{option_map}
use Rattle.bf_search.specs.declared.farm.Claim.{Claim}
use Rattle.bf_search.specs.declared.farm.Event.{Event}
use Rattle.bf_search.specs.declared.farm.Event.TheVariants as events
use Rattle.bf_search.specs.declared.outcomes.Outcome.{Outcome}
use Rattle.bf_search.specs.Farm.{Setting, Farm, step, stands, after_events, best_place}
use Rattle.bf_state.specs.Runs.{is_open}
use Rattle.bf_state.specs.Session.{Session}
use Rattle.bf_farm.specs.Cores.{CoreView, run_of, setting_at, IsSameStart}
use Rattle.bf_core.specs.declared.answers.Pick.{Pick}
use Rattle.bf_core.specs.declared.answers.Pick.TheVariants.{Work, NotYet, Ended}
use Rattle.bf_core.specs.Machine.{Machine, setting_of, farm_of}

-- a table with no claims
abbrev pub unclaimed : List (Option Outcome) → Farm
unclaimed table = record { table = table; claims = [] }

-- The events are legal, each at its point, from the first table without claims, and lead to this farm.
abbrev pub LeadsTo : Setting → List (Option Outcome) → List Event → Farm → Type 0
LeadsTo setting first events farm = after_events setting (Some (unclaimed first)) events ≡ Some farm

-- so to what a core has come to
abbrev pub LeadsToCore : List (Option Outcome) → List Event → Machine → Type 0
LeadsToCore first events core = LeadsTo (setting_of core) first events (farm_of core)

-- a board: its core, the table that it began with, its events, the oldest first, and the room for more of them
pub record BoardView : Type 0 where
  pub core : CoreView
  pub first : List (Option Outcome)
  pub events : List Event
  pub spare : ℕ

-- its core started with this
abbrev pub StartsFrom : List (List ℕ) → Session → ℕ → BoardView → Type 0
StartsFrom graph first leg board = board.core.setting ≡ setting_at graph first leg

-- its events lead from its first table to what its core has come to
abbrev pub IsLed : BoardView → Type 0
IsLed board = LeadsTo board.core.setting board.first board.events board.core.farm

-- nothing but the room has changed
pub record IsSameBoard (old new : BoardView) : Type 0 where
  pub core : new.core ≡ old.core
  pub first : new.first ≡ old.first
  pub events : new.events ≡ old.events

-- the core did this event, which was legal, and the board noted it
pub record Does (old new : BoardView) (event : Event) : Type 0 where
  pub start : IsSameStart old.core new.core
  pub first : new.first ≡ old.first
  pub done : step old.core.setting old.core.farm event ≡ Some new.core.farm
  pub noted : new.events ≡ old.events ++ event ∷ []

-- where it holds the event was done; otherwise nothing has changed
abbrev pub DoesIf : Bool → BoardView → BoardView → Event → Type 0
DoesIf true old new event = Does old new event
DoesIf false old new event = IsSameBoard old new

-- whether a worker has claimed this place
abbrev pub is_claimed : BoardView → ℕ → ℕ → Bool
is_claimed board worker p = stands board.core.farm.claims worker p

-- a claim stands on the board
abbrev pub IsStanding : BoardView → Claim → Type 0
IsStanding board claim = is_claimed board claim.worker claim.place ≡ true

-- where its claim stands, the outcome of a place was posted; otherwise nothing has changed
abbrev pub PostsIfClaimed : BoardView → BoardView → ℕ → ℕ → Outcome → Type 0
PostsIfClaimed old new worker p outcome = DoesIf (is_claimed old worker p) old new (events.Post worker p outcome)

-- where its claim stands, a place was given back; otherwise nothing has changed
abbrev pub GivesIfClaimed : BoardView → BoardView → ℕ → ℕ → Type 0
GivesIfClaimed old new worker p = DoesIf (is_claimed old worker p) old new (events.Give worker p)

-- the place that a worker has claimed
abbrev pub claimed_by : List Claim → ℕ → Option ℕ
claimed_by claims worker = option_map (λ c. c.place) (find (λ c. c.worker == worker) claims)

-- what a pick of a worker without a claim does: it claims the best open place, or nothing changes
abbrev pub PicksNew : BoardView → BoardView → ℕ → Pick → Type 0
PicksNew old new worker (Work p) = Does old new (events.Claim worker p)
PicksNew old new worker NotYet =
    IsSameBoard old new × (best_place old.core.setting old.core.farm ≡ None) × (is_open (run_of old.core).end ≡ true)
PicksNew old new worker Ended = IsSameBoard old new × (is_open (run_of old.core).end ≡ false)

-- A worker with a claim keeps it.
abbrev pub PicksFor : Option ℕ → BoardView → BoardView → ℕ → Pick → Type 0
PicksFor (Some p) old new worker pick = (pick ≡ Work p) × IsSameBoard old new
PicksFor None old new worker pick = PicksNew old new worker pick

-- what a pick of a worker does, by its claim
abbrev pub PicksAsClaimed : BoardView → BoardView → ℕ → Pick → Type 0
PicksAsClaimed old new worker pick = PicksFor (claimed_by old.core.farm.claims worker) old new worker pick
