use Rattle.std.proofs.Common.{◌<◌, length, take, All}
use Rattle.bf_many.proofs.next.above_all.Given as goal

-- it is above the claims of the searches so far
abbrev pub invariant-loop-core : goal.invariant-loop-core
invariant-loop-core l = All (λ core. length core.claims < l.above) (take l.core-index l.cores)
