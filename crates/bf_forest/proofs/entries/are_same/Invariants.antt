use Rattle.std.proofs.Common.{◌≡◌, length, drop}
use Rattle.bf_forest.specs.Trees.{are_same}
use Rattle.bf_forest.proofs.entries.are_same.Given as goal

abbrev pub invariant-loop-i : goal.invariant-loop-i
invariant-loop-i l = record {
  length : length l.a ≡ length l.b;
  rest : are_same (drop l.i l.a) (drop l.i l.b) ≡ are_same l.a l.b;
}
