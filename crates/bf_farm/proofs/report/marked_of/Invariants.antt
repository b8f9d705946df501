use Rattle.std.proofs.Common.{take}
use Rattle.bf_farm.specs.Used.{marked_places, AreAnswersAt}
use Rattle.bf_farm.proofs.report.marked_of.Given as goal

abbrev pub invariant-loop-entry : goal.invariant-loop-entry
invariant-loop-entry l = AreAnswersAt l.names l.table (marked_places (take l.entry-index l.entries)) l.used.items
