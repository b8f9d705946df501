-- The outcomes that a run used, and those that it did not know.
use Rattle.std.specs.Prelude.{◌≡◌, ℕ, All, Some, None}
use Rattle.bf_search.specs.Outcomes.{Outcomes}
use Rattle.bf_search.specs.Run.{Open, Run}

-- These outcomes tell what a run used, and not the one that it waits for.
pub record TellsUsed (known : Outcomes) (run : Run) : Type 0 where
  pub used : All (λ pair. known pair.0 ≡ Some pair.1) run.used
  pub unknown : (p : ℕ) → run.end ≡ Open p → known p ≡ None
