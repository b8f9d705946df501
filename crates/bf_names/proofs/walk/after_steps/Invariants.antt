use Rattle.std.proofs.Common.{◌≡◌, ◌<◌, length, drop}
use Rattle.bf_names.specs.Names.{after_steps}
use Rattle.bf_names.proofs.walk.after_steps.Given as goal

abbrev pub invariant-loop-step : goal.invariant-loop-step
invariant-loop-step l = (after_steps l.graph l.steps l.fn.place ≡ after_steps l.graph (drop l.step-index l.steps) l.place) × (l.place < length l.graph)
