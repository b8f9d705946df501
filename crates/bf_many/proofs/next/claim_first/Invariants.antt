use Rattle.bf_many.specs.Cores.{AreSameButNodes, machines_of}
use Rattle.bf_many.proofs.Nexts.{AreClosedTo}
use Rattle.bf_many.proofs.next.claim_first.Given as goal

-- none of the searches so far with so many claims has an open place
abbrev pub invariant-loop-index : goal.invariant-loop-index
invariant-loop-index l = record {
  same : AreSameButNodes l.fn.cores l.cores;
  closed : AreClosedTo (machines_of l.fn.cores) l.claims l.index;
}
