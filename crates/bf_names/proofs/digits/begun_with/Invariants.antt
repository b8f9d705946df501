use Rattle.std.proofs.Common.{◌≤◌}
use Rattle.bf_names.specs.Counting.{IsSeen}
use Rattle.bf_names.proofs.Abbreviating.{begun}
use Rattle.bf_names.proofs.digits.begun_with.Given as goal

abbrev pub invariant-loop-place : goal.invariant-loop-place
invariant-loop-place l = IsSeen (begun l.names l.digits l.place) l.place l.found l.count × (l.count ≤ l.place)
