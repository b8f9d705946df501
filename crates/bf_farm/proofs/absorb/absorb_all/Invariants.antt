use Rattle.std.proofs.Common.{◌≡◌, ◌++◌}
use Rattle.bf_farm.specs.Testers.{KeepsManner, HasAnswersOf}
use Rattle.bf_farm.specs.Workers.{HasAllAnswersOf, GainsAnswersOf}
use Rattle.bf_farm.proofs.absorb.absorb_all.Given as goal

abbrev pub invariant-loop-worker : goal.invariant-loop-worker
invariant-loop-worker g l = record {
  manner : KeepsManner g.T.Tester l.fn.tester l.tester;
  is_split : g.T.Tester.is_split l.tester ≡ g.T.Tester.is_split l.fn.tester;
  faults : g.T.Tester.faults l.tester ≡ g.T.Tester.faults l.fn.tester;
  own : HasAnswersOf g.T.Tester l.tester l.fn.tester;
  absorbed : HasAllAnswersOf g.T.Tester l.tester l.yielded;
  gained : GainsAnswersOf g.T.Tester l.fn.tester l.tester l.yielded;
  rest : l.yielded ++ l.worker-iterator.rest.items ≡ l.fn.workers.items;
}
