use Rattle.std.proofs.Common.{◌≡◌, length}
use Rattle.bf_cert.specs.Edges.{AreRisingTo}
use Rattle.bf_cert.proofs.edges.sorted_graph.Given as goal

abbrev pub invariant-loop-place : goal.invariant-loop-place
invariant-loop-place l = record {
  len : length l.sorted ≡ l.place;
  each : AreRisingTo l.place l.graph l.sorted;
}
