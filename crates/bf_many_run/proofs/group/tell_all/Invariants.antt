use Rattle.bf_tester.specs.contracts.plan_tester.PlanTesterTester.TheImpl.{ghosts as by_plan}
use Rattle.bf_many_run.specs.Groups.{all_told}
use Rattle.bf_many_run.proofs.Joining.{IsTelling}
use Rattle.bf_many_run.proofs.group.tell_all.Given as goal

-- the slots so far are told, and the rest may be
abbrev pub invariant-loop-slot : goal.invariant-loop-slot
invariant-loop-slot g l =
    IsTelling by_plan l.fn.search.history.now (all_told by_plan l.fn.search.history.now l.fn.group.slots.items l.fn.group.testers.items) l.texts
    l.slot-iterator.rest.items l.testers.rest.items l.tables.rest.items
