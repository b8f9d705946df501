use Rattle.std.proofs.Common.{◌≡◌, drop}
use Rattle.bf_farm.specs.Boards.{claimed_by}
use Rattle.bf_farm.proofs.board.claim_of.Given as goal

abbrev pub invariant-loop-claim : goal.invariant-loop-claim
invariant-loop-claim l = claimed_by l.claims l.worker ≡ claimed_by (drop l.claim-index l.claims) l.worker
