use Rattle.std.proofs.Common.{◌≡◌, ◌-◌, ◌++◌}
use Rattle.bf_gen.specs.Steps.{states_on, commits_from}
use Rattle.bf_gen.proofs.commits.put_commits.Given as goal

abbrev pub invariant-loop-commit : goal.invariant-loop-commit
invariant-loop-commit l = record {
  text : l.text ≡ l.fn.text ++ commits_from l.fn.state l.fn.first (l.commit - l.fn.first);
  state : l.state ≡ states_on l.fn.state (l.commit - l.fn.first);
}
