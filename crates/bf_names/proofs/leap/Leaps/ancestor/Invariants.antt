use Rattle.std.proofs.Common.{◌≡◌, ◌<◌, length}
use Rattle.bf_names.specs.Names.{ancestor}
use Rattle.bf_names.proofs.leap.Leaps.ancestor.Given as goal

abbrev pub invariant-loop-left : goal.invariant-loop-left
invariant-loop-left l = record {
  leads : ancestor l.graph l.generation l.fn.place ≡ ancestor l.graph l.left l.place;
  within : l.place < length l.graph;
}

abbrev pub decreases-loop-left : goal.decreases-loop-left
decreases-loop-left l = l.left
