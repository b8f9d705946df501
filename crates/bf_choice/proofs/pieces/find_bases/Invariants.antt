use Rattle.bf_choice.specs.Pieces.{HasBases, HasParentsFrom}
use Rattle.bf_choice.proofs.pieces.find_bases.Given as goal

abbrev pub invariant-loop-place : goal.invariant-loop-place
invariant-loop-place l = HasBases l.graph l.bases.items × HasParentsFrom l.graph l.place l.bound
