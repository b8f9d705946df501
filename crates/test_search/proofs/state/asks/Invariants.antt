use Rattle.std.proofs.Common.{◌≡◌, length}
use Rattle.test_search.proofs.state.asks.Given as goal

abbrev pub invariant-loop-mark : goal.invariant-loop-mark
invariant-loop-mark l = length l.reach ≡ l.state.len
