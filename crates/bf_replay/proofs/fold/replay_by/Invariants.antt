use Rattle.std.proofs.Common.{◌≡◌, None, length, drop, IfSome}
use Rattle.bf_log.specs.Replay.{replay_from}
use Rattle.bf_replay.specs.Meaning.{setting_of, replayed_before, AreWithin, HasLength}
use Rattle.bf_replay.proofs.fold.replay_by.Given as goal

-- replaying from here on is replaying the whole log
abbrev pub invariant-loop-line : goal.invariant-loop-line
invariant-loop-line l = record {
  goes_on : replay_from (setting_of l.history) None l.lines ≡ replay_from (setting_of l.history)
      (replayed_before l.replayed) (drop l.line-index l.lines);
  len : IfSome l.replayed (HasLength (length l.history.parents));
  within : IfSome l.replayed (AreWithin (length l.history.parents));
}
