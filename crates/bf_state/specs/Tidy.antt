-- What every farm keeps of its claims.
use Rattle.std.specs.Prelude.{◌≡◌, ◌≢◌, All, None}
use Rattle.std.specs.List.{AllPairs}
use Rattle.bf_search.specs.Outcomes.{outcomes_of_table}
use Rattle.bf_search.specs.Farm.{Farm}

-- The claims are of different workers and of different places, and no claimed place has an outcome.
pub record IsTidy (farm : Farm) : Type 0 where
  pub workers : AllPairs (λ a b. a.worker ≢ b.worker) farm.claims
  pub places : AllPairs (λ a b. a.place ≢ b.place) farm.claims
  pub untold : All (λ c. outcomes_of_table farm.table c.place ≡ None) farm.claims
