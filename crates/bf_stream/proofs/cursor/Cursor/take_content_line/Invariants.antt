use Rattle.std.proofs.Common.{◌≤◌, length}
use Rattle.bf_stream.specs.Going.{GoesOnAs}
use Rattle.bf_stream.specs.Data.{content_line}
use Rattle.bf_stream.specs.Cursor.{place_at, left_to_read}
use Rattle.bf_stream.proofs.Chains.{Goes}
use Rattle.bf_stream.proofs.cursor.Cursor.take_content_line.Given as goal

abbrev pub invariant-pieces : goal.invariant-pieces
invariant-pieces g l = record {
  taken : GoesOnAs (content_line l.self.limits l.line l.fn.content) (content_line l.self.limits l.line l.content)
      (place_at g.S.Source.left l.fn.self) (place_at g.S.Source.left l.self);
  within : length l.content ≤ l.self.limits.part;
  goes : Goes g.S.Source.left g.S.Source.faults l.fn.self l.self;
}

abbrev pub decreases-pieces : goal.decreases-pieces
decreases-pieces g l = left_to_read l.self
