use Rattle.bf_many.specs.Cores.{AreSameButNodes, machines_of}
use Rattle.bf_many.proofs.Nexts.{AreClosedBefore}
use Rattle.bf_many.proofs.next.is_next.Given as goal

-- of the searches so far that go before this one, it alone has an open place
abbrev pub invariant-loop-index : goal.invariant-loop-index
invariant-loop-index l = record {
  same : AreSameButNodes l.fn.cores l.cores;
  closed : AreClosedBefore (machines_of l.fn.cores) l.claims l.search l.index;
}
