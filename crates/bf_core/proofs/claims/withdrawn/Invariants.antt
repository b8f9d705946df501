use Rattle.std.proofs.Common.{take}
use Rattle.bf_core.specs.Claims.{IsIdle, IsSameTree}
use Rattle.bf_core.proofs.Picking.{Picked}
use Rattle.bf_core.proofs.claims.withdrawn.Given as goal

-- the workers of the claims so far whose places no path asks for
abbrev pub invariant-loop-claim : goal.invariant-loop-claim
invariant-loop-claim l = record {
  tree : IsSameTree l.fn.tree l.tree;
  picked : Picked (λ c. IsIdle l.fn.tree l.table l.ended c.place) (take l.claim-index l.claims) l.workers.items;
}
