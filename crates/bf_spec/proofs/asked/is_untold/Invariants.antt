use Rattle.std.proofs.Common.{◌≡◌, ℕ, ◌<◌, false, true}
use Rattle.bf_search.specs.Outcomes.{outcomes_of_table}
use Rattle.bf_spec.specs.Ways.{is_told, may_be_asked}
use Rattle.bf_spec.proofs.asked.is_untold.Given as goal

-- nothing is told of the places so far
abbrev pub invariant-loop-place : goal.invariant-loop-place
invariant-loop-place l = (q : ℕ) → q < l.place → may_be_asked l.node q ≡ true → is_told (outcomes_of_table l.table q) ≡ false
