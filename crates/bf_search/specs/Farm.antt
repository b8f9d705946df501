-- The farm machine: claims, posts and givings back of workers, over a table of outcomes.
use Rattle.std.specs.Prelude.{ℕ, Bool, false, not, ◌&&◌, ◌==◌, if◌then◌else◌, List, [], ◌∷◌, ◌++◌, filter, slice_set, Option, Some, None}
use Rattle.std.specs.List.{list_any}
use Rattle.bf_search.specs.declared.asks.Ask.TheVariants as asks
use Rattle.bf_search.specs.declared.farm.Claim.{Claim}
use Rattle.bf_search.specs.declared.farm.Ending.{Ending}
use Rattle.bf_search.specs.declared.farm.Ending.TheVariants as endings
use Rattle.bf_search.specs.declared.farm.Event.{Event}
use Rattle.bf_search.specs.declared.farm.Event.TheVariants.{Claim as Claimed, Post as Posted, Give as Given}
use Rattle.bf_search.specs.declared.outcomes.Outcome.{Outcome}
use Rattle.bf_search.specs.Outcomes.{outcomes_of_table}
use Rattle.bf_search.specs.State.{Search}
use Rattle.bf_search.specs.Run.{End, Answered, Leg, Open, Aborted, Run, one_at_a_time}
use Rattle.bf_search.specs.OpenPaths.{best_open, place_of}

-- what never changes: the graph, the search that the farm started with, and the length of its legs
pub record Setting : Type 0 where
  pub graph : List (List ℕ)
  pub start : Search
  pub leg : ℕ

-- what an event changes: the outcomes by place, where they are known, and the claims that stand
pub record Farm : Type 0 where
  pub table : List (Option Outcome)
  pub claims : List Claim

-- the run on the outcomes that are known
abbrev pub consumed : Setting → List (Option Outcome) → Run
consumed setting table = one_at_a_time setting.graph setting.start (outcomes_of_table table) setting.leg

-- where a run waits for an outcome, the place of the best open path from the search that it reached
abbrev pub place_at : Setting → Farm → Run → End → Option ℕ
place_at setting farm run (Open p) = place_of (best_open setting.graph (outcomes_of_table farm.table) farm.claims run.search)
place_at setting farm run other = None

-- the best open place; where there is an ending there is none
abbrev pub best_place : Setting → Farm → Option ℕ
best_place setting farm = let run = consumed setting farm.table in place_at setting farm run run.end

-- ---- events

-- whether a worker has a claim
abbrev pub has_claim : List Claim → ℕ → Bool
has_claim claims worker = list_any (λ c. c.worker == worker) claims

-- whether this claim stands
abbrev pub stands : List Claim → ℕ → ℕ → Bool
stands claims worker p = list_any (λ c. (c.worker == worker) && (c.place == p)) claims

-- the claims of the other workers
abbrev pub without : List Claim → ℕ → List Claim
without claims worker = filter (λ c. not (c.worker == worker)) claims

abbrev pub is_best : Option ℕ → ℕ → Bool
is_best None p = false
is_best (Some q) p = q == p

-- What an event leaves, and none where it is not legal. A claim needs a worker without one, and the best open place;
-- a post and a giving back need their claim.
abbrev pub step : Setting → Farm → Event → Option Farm
step setting farm (Claimed worker p) =
    if not (has_claim farm.claims worker) && is_best (best_place setting farm) p
    then Some (record farm { claims = farm.claims ++ (record { worker = worker; place = p }) ∷ [] }) else None
step setting farm (Posted worker p outcome) =
    if stands farm.claims worker p
    then Some (record { table = slice_set farm.table p (Some outcome); claims = without farm.claims worker }) else None
step setting farm (Given worker p) =
    if stands farm.claims worker p then Some (record farm { claims = without farm.claims worker }) else None

-- what a list of events leaves, each legal at its point
abbrev pub after_events : Setting → Option Farm → List Event → Option Farm
after_events setting farm [] = farm
after_events setting None (event ∷ events) = None
after_events setting (Some farm) (event ∷ events) = after_events setting (step setting farm event) events

-- ---- endings

-- The end of a run that an ending tells. Where a test could not be made, the run waits for its outcome.
abbrev pub end_of : Ending → End
end_of (endings.FirstBad p) = Answered (asks.FirstBad p)
end_of (endings.OnlySkipped ps) = Answered (asks.OnlySkipped ps)
end_of (endings.MergeBaseBad p) = Answered (asks.MergeBaseBad p)
end_of (endings.GoodNotAncestor p) = Answered (asks.GoodNotAncestor p)
end_of (endings.BothSides p) = Answered (asks.BothSides p)
end_of (endings.Aborted p outcome) = Aborted p outcome
end_of endings.Leg = Leg
end_of (endings.TestFault p) = Open p
