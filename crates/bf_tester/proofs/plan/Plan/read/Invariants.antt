use Rattle.std.proofs.Common.{◌≡◌, take}
use Rattle.bf_tester.specs.Plans.{plan_of}
use Rattle.bf_tester.proofs.plan.Plan.read.Given as goal

abbrev pub invariant-loop-letter : goal.invariant-loop-letter
invariant-loop-letter l = l.outcomes.items ≡ plan_of (take l.letter-index l.letters)
