use Rattle.bf_many.specs.Cores.{AreSameButNodes, machines_of}
use Rattle.bf_many.proofs.Nexts.{AreClosedBelow}
use Rattle.bf_many.proofs.next.pick.Given as goal

-- no search with fewer claims has an open place
abbrev pub invariant-loop-claims : goal.invariant-loop-claims
invariant-loop-claims l = record {
  same : AreSameButNodes l.fn.cores l.cores;
  closed : AreClosedBelow (machines_of l.fn.cores) l.claims;
}
