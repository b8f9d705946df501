-- What testing one commit after another gains: the answers that the run uses and that the first table lacks.
use Rattle.std.specs.Prelude.{◌≡◌, ℕ, true, List, ◌++◌, map, filter, All, Contains, Option, Some}
use Rattle.std.specs.List.{slice_get}
use Rattle.std.specs.Option.{is_none, is_some}
use Rattle.bf_oid.specs.declared.object.Oid.{Oid}
use Rattle.bf_search.specs.declared.outcomes.Outcome.{Outcome}
use Rattle.bf_search.specs.Outcomes.{outcomes_of_table}
use Rattle.bf_state.specs.Runs.{IsPartOf}
use Rattle.bf_tester.specs.declared.answer.Answer.{Answer}
use Rattle.bf_core.specs.Machine.{IsOverGraph}
use Rattle.bf_farm.specs.Answering.{pair_of}
use Rattle.bf_farm.specs.Cores.{CoreView, run_of}

-- the used pairs whose places a table lacks, in order
abbrev pub lacking_pairs : List (Option Outcome) → List (ℕ × Outcome) → List (ℕ × Outcome)
lacking_pairs table used = filter (λ pair. is_none (outcomes_of_table table pair.0)) used

-- a run used the outcome of a place
pub record IsUsedAt (used : List (ℕ × Outcome)) (p : ℕ) : Type 0 where
  pub pair : ℕ × Outcome
  pub among : Contains used pair
  pub place : pair.0 ≡ p

-- The answers gained are those that the run uses and the first table lacks, in order, and nothing else was learnt.
pub record IsGained (names : List Oid) (first : List (Option Outcome)) (before : List Answer) (core : CoreView) (after : List Answer) : Type 0 where
  pub gained : List Answer
  pub added : after ≡ before ++ gained
  pub named : All (λ a. slice_get names a.place ≡ Some a.name) gained
  pub lacked : map pair_of gained ≡ lacking_pairs first (run_of core).used
  pub more : IsPartOf (outcomes_of_table first) (outcomes_of_table core.farm.table)
  pub learnt : (p : ℕ) → is_some (outcomes_of_table core.farm.table p) ≡ true → is_none (outcomes_of_table first p) ≡ true → IsUsedAt (run_of core).used p

-- a core and the answers go on so that what was gained stays so
abbrev pub GainsMore : List Oid → CoreView → List Answer → CoreView → List Answer → Type 0
GainsMore names old answers new more =
    IsOverGraph old.setting → (first : List (Option Outcome)) (before : List Answer)
    → IsGained names first before old answers → IsGained names first before new more
