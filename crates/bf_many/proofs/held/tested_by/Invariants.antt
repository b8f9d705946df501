use Rattle.std.proofs.Common.{◌≡◌, drop}
use Rattle.bf_many.specs.Many.{tested_by}
use Rattle.bf_many.proofs.held.tested_by.Given as goal

-- the claim is among those that are left
abbrev pub invariant-loop-claim : goal.invariant-loop-claim
invariant-loop-claim l = tested_by l.claims l.worker ≡ tested_by (drop l.claim-index l.claims) l.worker
