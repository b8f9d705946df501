use Rattle.std.proofs.Common.{◌≡◌, [], length, All}
use Rattle.bf_farm.specs.Workers.{AreOfManner}
use Rattle.bf_farm.proofs.share.split_all.Given as goal

abbrev pub invariant-loop-index : goal.invariant-loop-index
invariant-loop-index g l = record {
  manner : AreOfManner g.T.Tester l.tester l.workers.items;
  answers : All (λ w. g.T.Tester.answers w.tester ≡ []) l.workers.items;
  count : length l.workers.items ≡ l.index;
}
