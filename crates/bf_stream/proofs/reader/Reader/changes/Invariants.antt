use Rattle.bf_grammar.specs.Commands.{change_at}
use Rattle.bf_stream.specs.Cursor.{left_to_read}
use Rattle.bf_stream.proofs.Turns.{Collects}
use Rattle.bf_stream.proofs.reader.Reader.changes.Given as goal

abbrev pub invariant-changes : goal.invariant-changes
invariant-changes g l = Collects g.S.Source.left g.S.Source.faults l.fn.self.cursor l.self.cursor change_at l.changes

abbrev pub decreases-changes : goal.decreases-changes
decreases-changes g l = left_to_read l.self.cursor
