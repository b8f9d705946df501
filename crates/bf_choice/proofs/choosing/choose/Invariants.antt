use Rattle.std.proofs.Common.{◌≤◌, ◌-◌, length}
use Rattle.bf_search.specs.Choice.{is_eligible}
use Rattle.bf_choice.proofs.Leading.{Leader, value_at}
use Rattle.bf_choice.proofs.choosing.choose.Given as goal

abbrev pub invariant-loop-place : goal.invariant-loop-place
invariant-loop-place l = record {
  within : l.from ≤ length l.mask;
  led : Leader (is_eligible l.mask l.bad l.skips) (value_at l.mask l.weights) l.from l.leader;
}

abbrev pub decreases-loop-place : goal.decreases-loop-place
decreases-loop-place l = length l.mask - l.from
