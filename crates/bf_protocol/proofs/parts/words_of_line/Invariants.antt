use Rattle.std.proofs.Common.{◌≡◌, ◌++◌, length}
use Rattle.bf_protocol.specs.Requests.{parted, words_in}
use Rattle.bf_protocol.proofs.parts.words_of_line.Given as goal

-- the words so far, and those from here on
abbrev pub invariant-loop-word : goal.invariant-loop-word
invariant-loop-word l = words_in l.line ≡ l.words.items ++ parted l.rest

abbrev pub decreases-loop-word : goal.decreases-loop-word
decreases-loop-word l = length l.rest
