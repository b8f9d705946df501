-- Searches over eight commits.
use Rattle.std.specs.Prelude.{◌≡◌, List, length, replicate, All, Option, None}
use Rattle.bf_state.specs.Ends.{HasEnds}
use Rattle.bf_many.specs.declared.search.ReadySearch.{ReadySearch}
use Rattle.bf_search.specs.declared.outcomes.Outcome.{Outcome}

-- a search whose ends are known, and no outcome
pub record IsFresh (s : ReadySearch) : Type 0 where
  pub len : s.state.len ≡ 8
  pub ends : HasEnds s.state.search
  pub table : s.table ≡ replicate 8 None

-- two of them
pub record AreFresh (searches : List ReadySearch) : Type 0 where
  pub two : length searches ≡ 2
  pub each : All IsFresh searches

-- there is an outcome or none for each of the eight
abbrev pub IsOfEight : List (Option Outcome) → Type 0
IsOfEight table = length table ≡ 8
