use Rattle.bf_farm.specs.Testers.{IsPart}
use Rattle.bf_farm.proofs.worker.work.Given as goal

abbrev pub invariant-loop : goal.invariant-loop
invariant-loop g l = IsPart g.T.Tester l.fn.worker.tester l.worker.tester
