use Rattle.std.specs.Prelude.{false}
use Rattle.bf_tester.specs.Waits.{LooksOn}
use Rattle.bf_tester.proofs.waiting.wait_for.Given as goal

-- the looks so far found nothing
abbrev pub invariant-loop : goal.invariant-loop
invariant-loop g l = LooksOn l.fn.stop l.stop false
