use Rattle.bf_farm.specs.Workers.{AnswersArePosts}
use Rattle.bf_farm.proofs.replay.is_each_posted.Given as goal

abbrev pub invariant-loop-index : goal.invariant-loop-index
invariant-loop-index g l = AnswersArePosts g.T.Tester l.workers l.names l.events l.index
