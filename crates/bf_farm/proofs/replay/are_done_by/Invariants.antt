use Rattle.std.proofs.Common.{take}
use Rattle.bf_farm.specs.Doers.{AreDoneBy}
use Rattle.bf_farm.proofs.replay.are_done_by.Given as goal

abbrev pub invariant-loop-event : goal.invariant-loop-event
invariant-loop-event l = AreDoneBy l.workers (take l.event-index l.events)
