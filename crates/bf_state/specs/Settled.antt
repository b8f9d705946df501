-- The places that an ask never tests.
use Rattle.std.specs.Prelude.{ℕ, Bool, ◌||◌}
use Rattle.bf_search.specs.Bases.{has_place}
use Rattle.bf_search.specs.Candidates.{is_in}
use Rattle.bf_search.specs.State.{Search, is_place}

-- a place that is marked: it is good, the bad one or skipped
abbrev pub is_settled : Search → ℕ → Bool
is_settled s p = has_place s.goods p || is_place s.bad p || is_in s.skips p
