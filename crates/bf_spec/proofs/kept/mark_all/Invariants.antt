use Rattle.std.proofs.Common.{◌≡◌, drop}
use Rattle.bf_spec.specs.Kept.{after_marks}
use Rattle.bf_spec.proofs.kept.mark_all.Given as goal

abbrev pub invariant-loop-marking : goal.invariant-loop-marking
invariant-loop-marking l = record {
  marked : after_marks l.fn.state l.marks ≡ after_marks l.state (drop l.marking-index l.marks);
  len : l.state.len ≡ l.fn.state.len;
}
