use Rattle.bf_gen.proofs.Growing.{none_yet, no_step, next_text, next_states}
use Rattle.bf_gen.proofs.commits.put_commits.Goals as goal

pub loop-commit-init : goal.loop-commit-init
loop-commit-init c = record {
  text = none_yet c.args.text.now c.args.state c.args.first;
  state = no_step c.args.state c.args.first;
}

pub loop-commit-preserved : goal.loop-commit-preserved
loop-commit-preserved c = record {
  text = next_text c.args.text.now c.loop-commit.text c.put_commit.new.text c.args.state c.loop-commit.state c.args.first c.loop-commit.commit
      c.loop-commit.auto.commit c.loop-commit.invariant.text c.loop-commit.invariant.state c.in_ok-put_commit.ensures;
  state = next_states c.args.state c.loop-commit.state c.next_state-state.result c.args.first c.loop-commit.commit
      c.loop-commit.auto.commit c.loop-commit.invariant.state c.next_state-state.ensures;
}
