use Rattle.std.proofs.Common.{◌≡◌, ◌*◌, take, count_ones}
use Rattle.std.specs.List.{sum_by}
use Rattle.bf_reach.proofs.Counted.{Counted}
use Rattle.bf_reach.proofs.words.count.Given as goal

abbrev pub invariant-loop-block : goal.invariant-loop-block
invariant-loop-block l = Counted l.words l.lanes (l.block * 8)

abbrev pub invariant-loop-at : goal.invariant-loop-at
invariant-loop-at l = l.total ≡ sum_by count_ones (take l.at l.words)
