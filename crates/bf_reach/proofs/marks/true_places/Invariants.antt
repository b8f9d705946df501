use Rattle.std.proofs.Common.{◌≡◌, ◌≤◌, ◌-◌, length}
use Rattle.std.specs.List.{filter, range_with_len}
use Rattle.bf_search.specs.Candidates.{is_in}
use Rattle.bf_reach.proofs.marks.true_places.Given as goal

abbrev pub invariant-loop-place : goal.invariant-loop-place
invariant-loop-place l = record {
  within : l.from ≤ length l.row;
  listed : l.places.items ≡ filter (λ place. is_in l.row place) (range_with_len 0 l.from);
}

abbrev pub decreases-loop-place : goal.decreases-loop-place
decreases-loop-place l = length l.row - l.from
