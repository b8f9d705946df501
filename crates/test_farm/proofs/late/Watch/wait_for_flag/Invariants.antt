use Rattle.std.proofs.Common.{◌≡◌}
use Rattle.test_farm.proofs.late.Watch.wait_for_flag.Given as goal

abbrev pub invariant-loop : goal.invariant-loop
invariant-loop l = l.stop.bare ≡ l.fn.stop.bare
