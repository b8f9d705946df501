use Rattle.std.proofs.Common.{◌-◌, length}
use Rattle.bf_choice.specs.Ranking.{IsPassed}
use Rattle.bf_choice.proofs.ranking.Ranking.choose.Given as goal

abbrev pub invariant-loop-place : goal.invariant-loop-place
invariant-loop-place l = IsPassed l.skips l.self l.at

abbrev pub decreases-loop-place : goal.decreases-loop-place
decreases-loop-place l = length l.self - l.at
