use Rattle.bf_choice.specs.Parents.{IsParentsBelow}
use Rattle.bf_choice.proofs.marks.fill_parents.Given as goal

abbrev pub invariant-loop-place : goal.invariant-loop-place
invariant-loop-place l = IsParentsBelow l.graph l.row l.place l.out
