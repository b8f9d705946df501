use Rattle.std.proofs.Common.{◌≡◌, length}
use Rattle.test_search.proofs.state.warned_by.Given as goal

abbrev pub invariant-loop-mark : goal.invariant-loop-mark
invariant-loop-mark l = length l.reach ≡ l.state.len
