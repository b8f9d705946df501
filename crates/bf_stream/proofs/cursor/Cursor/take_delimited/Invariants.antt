use Rattle.std.proofs.Common.{◌≤◌, length}
use Rattle.bf_grammar.specs.Place.{repeat}
use Rattle.bf_grammar.specs.Lines.{delimited_at, delimited_line}
use Rattle.bf_stream.specs.Going.{GoesOnAs}
use Rattle.bf_stream.specs.Cursor.{place_at, left_to_read}
use Rattle.bf_stream.proofs.Chains.{Goes}
use Rattle.bf_stream.proofs.cursor.Cursor.take_delimited.Given as goal

abbrev pub invariant-lines : goal.invariant-lines
invariant-lines g l = record {
  taken : GoesOnAs (delimited_at l.fn.self.limits l.line l.delimiter) (repeat (delimited_line l.fn.self.limits l.line l.delimiter) l.bytes)
      (place_at g.S.Source.left l.fn.self) (place_at g.S.Source.left l.self);
  within : length l.bytes ≤ l.self.limits.part;
  goes : Goes g.S.Source.left g.S.Source.faults l.fn.self l.self;
}

abbrev pub decreases-lines : goal.decreases-lines
decreases-lines g l = left_to_read l.self
