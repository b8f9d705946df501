use Rattle.std.proofs.Common.{◌≡◌, drop}
use Rattle.bf_log.specs.Written.{known_after_all}
use Rattle.bf_log.proofs.known.Known.learn_all.Given as goal

abbrev pub invariant-loop-entry : goal.invariant-loop-entry
invariant-loop-entry l = known_after_all l.known (drop l.entry-index l.entries) ≡ known_after_all l.fn.self l.entries
