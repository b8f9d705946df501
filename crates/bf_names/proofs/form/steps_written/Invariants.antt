use Rattle.std.proofs.Common.{◌≡◌, drop}
use Rattle.bf_names.specs.Names.{step_texts, steps_written}
use Rattle.bf_names.proofs.Forming.{resumed}
use Rattle.bf_names.proofs.form.steps_written.Given as goal

abbrev pub invariant-loop-at : goal.invariant-loop-at
invariant-loop-at l = steps_written (step_texts l.text) ≡ resumed l.steps.items (drop l.at l.text)
