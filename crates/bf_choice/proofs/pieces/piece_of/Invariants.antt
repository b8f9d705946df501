use Rattle.std.proofs.Common.{length}
use Rattle.bf_choice.specs.Numbering.{IsNumbered}
use Rattle.bf_choice.specs.Pieces.{interval}
use Rattle.bf_choice.proofs.pieces.piece_of.Given as goal

abbrev pub invariant-loop-place : goal.invariant-loop-place
invariant-loop-place l = IsNumbered l.graph (interval (length l.graph) l.base l.end) l.place l.piece
