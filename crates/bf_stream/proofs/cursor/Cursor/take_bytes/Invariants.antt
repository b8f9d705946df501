use Rattle.bf_grammar.specs.Lines.{bytes_at}
use Rattle.bf_stream.specs.Going.{GoesOnAs}
use Rattle.bf_stream.specs.Data.{bytes_from}
use Rattle.bf_stream.specs.Cursor.{place_at, left_to_read}
use Rattle.bf_stream.proofs.Chains.{Goes}
use Rattle.bf_stream.proofs.cursor.Cursor.take_bytes.Given as goal

abbrev pub invariant-pieces : goal.invariant-pieces
invariant-pieces g l = record {
  taken : GoesOnAs (bytes_at l.fn.line l.fn.count) (bytes_from l.line l.bytes l.left) (place_at g.S.Source.left l.fn.self)
      (place_at g.S.Source.left l.self);
  goes : Goes g.S.Source.left g.S.Source.faults l.fn.self l.self;
}

abbrev pub decreases-pieces : goal.decreases-pieces
decreases-pieces g l = left_to_read l.self
