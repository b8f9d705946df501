use Rattle.std.proofs.Common.{codes}
use Rattle.bf_stream.specs.Parts.{target_behind}
use Rattle.bf_stream.specs.Cursor.{left_to_read}
use Rattle.bf_stream.proofs.Turns.{Collects}
use Rattle.bf_stream.proofs.reader.Reader.merges.Given as goal

abbrev pub invariant-merges : goal.invariant-merges
invariant-merges g l = Collects g.S.Source.left g.S.Source.faults l.fn.self.cursor l.self.cursor (target_behind (codes "merge")) l.merges

abbrev pub decreases-merges : goal.decreases-merges
decreases-merges g l = left_to_read l.self.cursor
