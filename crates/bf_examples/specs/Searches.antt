-- Searches that share workers.
use Rattle.std.specs.Prelude.{◌≡◌, ℕ, List, length, replicate, All, Option, None}
use Rattle.bf_state.specs.Ends.{HasEnds}
use Rattle.bf_many.specs.declared.search.ReadySearch.{ReadySearch}

-- a search over so many commits whose ends are known, and no outcome
pub record IsFresh (n : ℕ) (s : ReadySearch) : Type 0 where
  pub len : s.state.len ≡ n
  pub ends : HasEnds s.state.search
  pub table : s.table ≡ replicate n None

-- two of them
pub record AreFresh (n : ℕ) (searches : List ReadySearch) : Type 0 where
  pub two : length searches ≡ 2
  pub each : All (IsFresh n) searches
