-- The places that a search may still ask for. Their number falls with each mark of an asked place.
use Rattle.std.specs.Prelude.{ℕ, Bool, false, not, ◌&&◌, ◌==◌, List, count_by, Option, Some, None}
use Rattle.bf_search.specs.Reach.{places, reaches}
use Rattle.bf_search.specs.Candidates.{is_in}
use Rattle.bf_search.specs.Bases.{has_place}
use Rattle.bf_search.specs.State.{Search}

-- whether the bad place reaches it, and is another
abbrev pub is_below : List (List ℕ) → Option ℕ → ℕ → Bool
is_below graph None q = false
is_below graph (Some bad) q = reaches graph bad q && not (q == bad)

-- the bad place reaches it, and it is neither the bad one nor good nor skipped
abbrev pub may_ask : List (List ℕ) → Search → ℕ → Bool
may_ask graph s q = is_below graph s.bad q && not (has_place s.goods q) && not (is_in s.skips q)

abbrev pub left_to_ask : List (List ℕ) → Search → ℕ
left_to_ask graph s = count_by (λ q. may_ask graph s q) (places graph)
