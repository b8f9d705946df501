use Rattle.bf_many.specs.Cores.{AreSameButNodes}
use Rattle.bf_many.proofs.Wanting.{AreFound}
use Rattle.bf_many.proofs.wanted.wanting.Given as goal

-- the wanting ones of the searches so far
abbrev pub invariant-loop-index : goal.invariant-loop-index
invariant-loop-index l = record {
  same : AreSameButNodes l.fn.cores l.cores;
  found : AreFound l.fn.cores l.place l.index l.searches.items;
}
