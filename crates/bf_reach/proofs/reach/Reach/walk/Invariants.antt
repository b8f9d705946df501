use Rattle.bf_reach.specs.Marks.{Marks}
use Rattle.bf_reach.proofs.reach.Reach.walk.Given as goal

abbrev pub invariant-loop-place : goal.invariant-loop-place
invariant-loop-place l = Marks l.self-inside.graph l.fn.out l.out l.place
