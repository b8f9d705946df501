use Rattle.std.proofs.Common.{◌≡◌, ◌++◌, take}
use Rattle.bf_farm.specs.Cores.{IsSameStart, IsSameLength}
use Rattle.bf_farm.specs.Sound.{KeepsSoundWith}
use Rattle.bf_farm.proofs.replay.replay.Given as goal

abbrev pub invariant-loop-event : goal.invariant-loop-event
invariant-loop-event l = record {
  start : IsSameStart l.fn.board.core l.board.core;
  first : l.board.first ≡ l.fn.board.first;
  len : IsSameLength l.fn.board.core l.board.core;
  sound : KeepsSoundWith (take l.event-index l.events) l.fn.board l.board;
  done : l.board.events ≡ l.fn.board.events ++ take l.event-index l.events;
}
