use Rattle.std.proofs.Common.{◌≡◌, length}
use Rattle.test_farm.proofs.shared.line.Given as goal

abbrev pub invariant-loop-place : goal.invariant-loop-place
invariant-loop-place l = length l.graph ≡ l.place
