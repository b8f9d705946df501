use Rattle.bf_grammar.specs.Lines.{next_front}
use Rattle.bf_stream.specs.Going.{GoesOnAs}
use Rattle.bf_stream.specs.Cursor.{place_at, left_to_read}
use Rattle.bf_stream.proofs.Chains.{Goes}
use Rattle.bf_stream.proofs.cursor.Cursor.next_front.Given as goal

abbrev pub invariant-lines : goal.invariant-lines
invariant-lines g l = record {
  passed : GoesOnAs (next_front l.empty_too l.fn.self.limits) (next_front l.empty_too l.self.limits)
      (place_at g.S.Source.left l.fn.self) (place_at g.S.Source.left l.self);
  goes : Goes g.S.Source.left g.S.Source.faults l.fn.self l.self;
}

abbrev pub decreases-lines : goal.decreases-lines
decreases-lines g l = left_to_read l.self
