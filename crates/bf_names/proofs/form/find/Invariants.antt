use Rattle.std.proofs.Common.{◌≡◌, ℕ, ◌<◌, ◌==◌, false, drop}
use Rattle.std.specs.List.{starts_with}
use Rattle.bf_names.proofs.form.find.Given as goal

abbrev pub invariant-loop-at : goal.invariant-loop-at
invariant-loop-at l = (k : ℕ) → k < l.at → starts_with ◌==◌ (drop k l.text) l.part ≡ false
