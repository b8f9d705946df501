use Rattle.std.proofs.Common.{◌≡◌, length}
use Rattle.bf_reading.specs.Reading.{and_then, words_of, read_start, nothing_started}
use Rattle.bf_reading.proofs.start.read_start.Given as goal

abbrev pub invariant-loop-start : goal.invariant-loop-start
invariant-loop-start l = and_then (words_of l.text) (read_start nothing_started) ≡ and_then (words_of l.rest) (read_start l.start)

abbrev pub decreases-loop-start : goal.decreases-loop-start
decreases-loop-start l = length l.rest
