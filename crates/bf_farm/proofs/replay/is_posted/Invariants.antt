use Rattle.std.proofs.Common.{take}
use Rattle.bf_farm.specs.Posts.{posts_by, ArePostsInOrder}
use Rattle.bf_farm.proofs.replay.is_posted.Given as goal

abbrev pub invariant-loop-event : goal.invariant-loop-event
invariant-loop-event g l =
    ArePostsInOrder l.names (posts_by l.number (take l.event-index l.events)) (take l.seen (g.T.Tester.answers l.worker.tester))
