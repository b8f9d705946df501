use Rattle.std.proofs.Common.{◌≡◌, length}
use Rattle.bf_names.specs.Leaps.{AreFirstLeaps}
use Rattle.bf_names.proofs.leap.Leaps.new.Given as goal

abbrev pub invariant-loop-place : goal.invariant-loop-place
invariant-loop-place l = record {
  len : length l.leaps.items ≡ l.place;
  each : AreFirstLeaps l.graph l.leaps.items;
}
