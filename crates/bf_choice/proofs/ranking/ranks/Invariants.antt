use Rattle.std.proofs.Common.{◌≤◌, ◌-◌, length}
use Rattle.bf_choice.specs.Ranking.{AreRanks}
use Rattle.bf_choice.proofs.ranking.ranks.Given as goal

abbrev pub invariant-loop-place : goal.invariant-loop-place
invariant-loop-place l = record {
  within : l.from ≤ length l.mask;
  ranked : AreRanks l.mask l.weights l.bad l.from l.ranks.items;
}

abbrev pub decreases-loop-place : goal.decreases-loop-place
decreases-loop-place l = length l.mask - l.from
