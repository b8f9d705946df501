use Rattle.std.proofs.Common.{◌≡◌}
use Rattle.test_farm.proofs.schedules.settle.Given as goal

abbrev pub invariant-loop : goal.invariant-loop
invariant-loop l = l.path.state.len ≡ l.fn.path.state.len
