use Rattle.std.proofs.Common.{ℕ, arith, length-drop}
use Rattle.std.proofs.lemmas.List.{length-take}
use Rattle.bf_io.proofs.Told.{Appends-more}
use Rattle.bf_io.proofs.device.write_whole.Goals as goal

pub loop-at-preserved : goal.loop-at-preserved
loop-at-preserved g c = record {
  within = omega (arith, c.in_ok-at.ensures.bound, length-take {A = ℕ}, length-drop {A = ℕ});
  taken = Appends-more _ _ _ c.args.bytes.now c.loop-at.at c.in_ok-at.field-0 c.loop-at.invariant.taken c.in_ok-at.ensures.bytes;
  later = omega (arith, c.write.ensures.cause.later);
  no_call = λ e. absurd (omega (arith, c.in_ok-at.ensures.bound));
}
