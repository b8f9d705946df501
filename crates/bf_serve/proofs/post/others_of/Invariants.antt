use Rattle.std.proofs.Common.{◌≡◌, take}
use Rattle.bf_serve.specs.Steps.{others_than}
use Rattle.bf_serve.proofs.post.others_of.Given as goal

abbrev pub invariant-loop-other : goal.invariant-loop-other
invariant-loop-other l = l.others ≡ others_than l.worker (take l.other-index l.workers)
