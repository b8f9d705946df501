use Rattle.std.proofs.Common.{◌≡◌, ◌≤◌}
use Rattle.bf_stream.specs.Cursor.{place_at}
use Rattle.bf_stream.proofs.Chains.{Goes}
use Rattle.bf_stream.proofs.Ends.{end_at}
use Rattle.bf_stream.proofs.cursor.Cursor.take_delimiter.Given as goal

abbrev pub invariant-reads : goal.invariant-reads
invariant-reads g l = record {
  known : l.scanned ≤ end_at l.self.window.bytes;
  place : place_at g.S.Source.left l.self ≡ place_at g.S.Source.left l.fn.self;
  goes : Goes g.S.Source.left g.S.Source.faults l.fn.self l.self;
}

abbrev pub decreases-reads : goal.decreases-reads
decreases-reads g l = l.self.window.quota
