use Rattle.std.proofs.Common.{◌≡◌, ◌++◌, take}
use Rattle.bf_log.specs.Labels.{commits_of}
use Rattle.bf_log.specs.Trace as trace
use Rattle.bf_log.proofs.trace.put_events.Given as goal

abbrev pub invariant-loop-event : goal.invariant-loop-event
invariant-loop-event l = l.out ≡ l.fn.out ++ trace.event_lines (commits_of l.commits) (take l.event-index l.events)
