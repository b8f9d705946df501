use Rattle.std.proofs.Common.{length}
use Rattle.bf_farm.specs.Sound.{GivesBack}
use Rattle.bf_farm.proofs.board.Board.give_all.Given as goal

abbrev pub invariant-loop-claim : goal.invariant-loop-claim
invariant-loop-claim l = GivesBack l.fn.self l.self

abbrev pub decreases-loop-claim : goal.decreases-loop-claim
decreases-loop-claim l = length l.self.core.farm.claims
