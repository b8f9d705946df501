use Rattle.std.proofs.Common.{◌≡◌}
use Rattle.bf_choice.specs.BlockRows.{apart_below}
use Rattle.bf_choice.proofs.sharing.rows_needed.Given as goal

abbrev pub invariant-loop-place : goal.invariant-loop-place
invariant-loop-place l = l.apart ≡ apart_below l.graph l.place
