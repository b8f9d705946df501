use Rattle.std.proofs.Common.{◌≡◌, drop}
use Rattle.bf_many.specs.Many.{held_by, held_from}
use Rattle.bf_many.specs.Cores.{machines_of}
use Rattle.bf_many.proofs.held.held_by.Given as goal

-- the claim is in one of the searches that are left
abbrev pub invariant-loop-index : goal.invariant-loop-index
invariant-loop-index l = held_by (machines_of l.cores) l.worker ≡ held_from l.index (machines_of (drop l.index l.cores)) l.worker
