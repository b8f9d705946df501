-- The claims of workers, and the workers whose claimed places no path asks for.
use Rattle.std.specs.Prelude.{◌≡◌, ◌≢◌, ◌↔◌, ℕ, ◌<◌, Bool, true, false, List, [], ◌++◌, length, All, Contains, Option, Some, None}
use Rattle.std.specs.List.{AllPairs}
use Rattle.bf_search.specs.declared.farm.Claim.{Claim}
use Rattle.bf_search.specs.declared.farm.Ending.{Ending}
use Rattle.bf_search.specs.declared.farm.Ending.TheVariants as endings
use Rattle.bf_search.specs.declared.outcomes.Mark.{Mark}
use Rattle.bf_search.specs.declared.outcomes.Outcome.{Outcome}
use Rattle.bf_search.specs.OpenPaths.{is_claimed}
use Rattle.bf_search.specs.Outcomes.{Outcomes, outcomes_of_table}
use Rattle.bf_search.specs.Run.{End, Answered, Leg, Open, Aborted}
use Rattle.bf_spec.specs.Tree.{Guesses}
use Rattle.bf_spec.specs.Ways.{IsAsked}

-- no worker has two claims, and no place is claimed twice
abbrev pub IsApart : List Claim → Type 0
IsApart claims = AllPairs (λ c d. (c.worker ≢ d.worker) × (c.place ≢ d.place)) claims

-- the claims that stand over a table: of places without an outcome
pub record AreClaims (table : List (Option Outcome)) (claims : List Claim) : Type 0 where
  pub within : All (λ c. c.place < length table) claims
  pub unknown : All (λ c. outcomes_of_table table c.place ≡ None) claims
  pub apart : IsApart claims

-- nobody tests this one of so many places, and its outcome is not known
pub record IsFree (places : ℕ) (known : Outcomes) (claims : List Claim) (p : ℕ) : Type 0 where
  pub within : p < places
  pub unknown : known p ≡ None
  pub unclaimed : is_claimed claims p ≡ false

-- a node is kept, under a path without these marks
abbrev pub KeepsNodes : List (List Mark) → List Mark → List (List Mark) → Type 0
KeepsNodes old marks new = (path : List Mark) → Contains old (marks ++ path) → Contains new path

-- nothing but the nodes has changed, and none is lost
pub record IsSameTree (old new : Guesses) : Type 0 where
  pub graph : new.graph ≡ old.graph
  pub session : new.session ≡ old.session
  pub root : new.root ≡ old.root
  pub kept : KeepsNodes old.paths [] new.paths

-- whether a search has its end: it goes on where it waits for an outcome, and behind the end of a leg
abbrev pub has_ended : Option Ending → Bool
has_ended None = false
has_ended (Some endings.Leg) = false
has_ended (Some ending) = true

-- a run that ends so goes on: it waits for an outcome, or its leg is over
abbrev pub GoesOn : End → Type 0
GoesOn (Open p) = Unit {0}
GoesOn Leg = Unit {0}
GoesOn (Answered a) = ⊥
GoesOn (Aborted p outcome) = ⊥

-- no path asks for the place; where the search has ended there is no path
abbrev pub IsIdle : Guesses → List (Option Outcome) → Bool → ℕ → Type 0
IsIdle tree table true p = Unit {0}
IsIdle tree table false p = ¬ IsAsked tree.graph (outcomes_of_table table) tree.root.search p

-- a worker whose claimed place no path asks for
pub record IsIdleWorker (tree : Guesses) (table : List (Option Outcome)) (ended : Bool) (claims : List Claim) (worker : ℕ) : Type 0 where
  pub claim : Claim
  pub among : Contains claims claim
  pub by : claim.worker ≡ worker
  pub idle : IsIdle tree table ended claim.place

-- these are the workers whose claimed place no path asks for
abbrev pub AreIdle : Guesses → List (Option Outcome) → Bool → List Claim → List ℕ → Type 0
AreIdle tree table ended claims workers =
    (worker : ℕ) → Contains workers worker ↔ IsIdleWorker tree table ended claims worker
