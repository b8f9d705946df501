-- Who does what: workers, who are numbered from 1, and the calling thread, whose number is 0.
use Rattle.std.specs.Prelude.{◌≡◌, ℕ, ◌≤◌, List, ◌++◌, All}
use Rattle.bf_search.specs.declared.farm.Event.{Event}
use Rattle.bf_search.specs.declared.farm.Event.TheVariants as events

-- the number of the worker that an event names
abbrev pub worker_of : Event → ℕ
worker_of (events.Claim worker p) = worker
worker_of (events.Post worker p outcome) = worker
worker_of (events.Give worker p) = worker

-- it is one of so many workers
pub record IsOneOf (workers worker : ℕ) : Type 0 where
  pub least : 1 ≤ worker
  pub most : worker ≤ workers

-- so many workers did these
abbrev pub AreDoneBy : ℕ → List Event → Type 0
AreDoneBy workers events = All (λ e. IsOneOf workers (worker_of e)) events

-- the calling thread did what was added
pub record AddsOwn (old new : List Event) : Type 0 where
  pub more : List Event
  pub added : new ≡ old ++ more
  pub own : All (λ e. worker_of e ≡ 0) more

-- So many workers did what comes first, and the calling thread all that follows.
pub record AreByWorkers (workers : ℕ) (events : List Event) : Type 0 where
  pub shared : List Event
  pub by_workers : AreDoneBy workers shared
  pub then_own : AddsOwn shared events
