use Rattle.std.proofs.Common.{◌≡◌, ◌++◌, take}
use Rattle.bf_search.specs.Run.{warnings}
use Rattle.bf_search.proofs.entries.push_warnings.Given as goal

abbrev pub invariant-loop-place : goal.invariant-loop-place
invariant-loop-place l = l.entries.items ≡ l.fn.entries.items ++ warnings (take l.place-index l.warned)
