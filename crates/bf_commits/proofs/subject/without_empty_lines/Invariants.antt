use Rattle.std.proofs.Common.{◌≡◌, length}
use Rattle.bf_history.specs.Bodies.{without_empty_lines}
use Rattle.bf_commits.proofs.subject.without_empty_lines.Given as goal

abbrev pub invariant-loop-text : goal.invariant-loop-text
invariant-loop-text l = without_empty_lines l.text ≡ without_empty_lines l.message

abbrev pub decreases-loop-text : goal.decreases-loop-text
decreases-loop-text l = length l.text
