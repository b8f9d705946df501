use Rattle.bf_many_run.proofs.Sharing.{slots_more}
use Rattle.bf_many_run.proofs.group.searches_of.Goals as goal

pub loop-slot-preserved : goal.loop-slot-preserved
loop-slot-preserved c =
    slots_more c.args.len c.args.slots.now c.loop-slot.slot-index c.slot-item.result _ _ c.loop-slot-test.true c.slot-item.is c.loop-slot.invariant
    c.in_ok-push_search.ensures
