use Rattle.std.proofs.Common.{◌≡◌, ◌≤◌, [], None}
use Rattle.bf_farm.specs.Cores.{IsSameStart, IsSameLength}
use Rattle.bf_farm.specs.Ends.{missing}
use Rattle.bf_farm.specs.Testers.{KeepsManner, HasAnswersOf, StaysSound, GainsBy, TestsOnBy}
use Rattle.bf_farm.proofs.alone.go_on.Given as goal

abbrev pub invariant-loop-place : goal.invariant-loop-place
invariant-loop-place g l = record {
  sound : StaysSound g.T.Tester l.fn.tester l.tester l.names l.fn.board l.board;
  gains : GainsBy g.T.Tester l.fn.tester l.tester l.names l.fn.board l.board;
  start : IsSameStart l.fn.board.core l.board.core;
  first : l.board.first ≡ l.fn.board.first;
  manner : KeepsManner g.T.Tester l.fn.tester l.tester;
  own : HasAnswersOf g.T.Tester l.tester l.fn.tester;
  is_split : g.T.Tester.is_split l.tester ≡ g.T.Tester.is_split l.fn.tester;
  faults : g.T.Tester.faults l.fn.tester ≤ g.T.Tester.faults l.tester;
  claims : l.board.core.farm.claims ≡ [];
  len : IsSameLength l.fn.board.core l.board.core;
  alone : TestsOnBy g.T.Tester l.fn.tester l.tester l.fn.board l.board None;
}

abbrev pub decreases-loop-place : goal.decreases-loop-place
decreases-loop-place g l = missing l.board.core.farm.table
