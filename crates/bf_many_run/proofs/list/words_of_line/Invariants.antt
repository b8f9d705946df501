use Rattle.std.proofs.Common.{◌≡◌, ◌++◌, length}
use Rattle.bf_commands.specs.Many.{parted, words_of_line}
use Rattle.bf_many_run.proofs.list.words_of_line.Given as goal

-- the words so far, and those from here on
abbrev pub invariant-loop-word : goal.invariant-loop-word
invariant-loop-word l = words_of_line l.line ≡ l.words.items ++ parted l.rest

abbrev pub decreases-loop-word : goal.decreases-loop-word
decreases-loop-word l = length l.rest
