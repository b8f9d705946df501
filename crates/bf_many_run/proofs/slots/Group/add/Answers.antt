use Rattle.bf_searches.proofs.Planning.{plan_read}
use Rattle.bf_tester.specs.contracts.plan_tester.PlanTesterTester.TheImpl.{ghosts as by_plan}
use Rattle.bf_many_run.proofs.Grouping.{has_begun, search_begun, search_refused, searched_refused, tells_asked}
use Rattle.bf_many_run.proofs.slots.Group.add.Goals as goal

pub tester_of-requires : goal.tester_of-requires
tester_of-requires c = record { plan = plan_read c.args.line.words.now c.args.line.request.now c.requires.asked }

pub returns-in_ok-push-in-Ok-2-clause-added : goal.returns-in_ok-push-in-Ok-2-clause-added
returns-in_ok-push-in-Ok-2-clause-added c = λ lines are.
    search_begun by_plan c.args.history.now lines c.args.line.words.now _ _ _ _ c.in_ok-begun-in-Ok.begun c.in_ok-tester-in-Ok.tester are c.in_ok-push-in-Ok.ensures.items
    c.in_ok-push-in-Ok-2.ensures.items
    (has_begun by_plan c.args.history.now c.args.line.words.now c.args.line.request.now c.in-Ok.first c.in_ok-begun-in-Ok.begun c.in_ok-tester-in-Ok.tester
    c.in_ok-begun-in-Ok.ensures c.in-Ok.ensures.len c.in-Ok.ensures.ends c.in_ok-tester-in-Ok.ensures.told c.in_ok-tester-in-Ok.ensures.fresh
    c.in_ok-tester-in-Ok.ensures.is_split)
    (tells_asked by_plan c.args.history.now c.args.line.words.now c.args.line.request.now c.in-Ok.first c.in_ok-begun-in-Ok.begun c.in_ok-tester-in-Ok.tester
    c.requires.asked c.in-Ok.ensures.step c.in_ok-begun-in-Ok.ensures c.in_ok-tester-in-Ok.ensures.told)

pub returns-in_ok-push-in-Err-Refused-clause-added : goal.returns-in_ok-push-in-Err-Refused-clause-added
returns-in_ok-push-in-Err-Refused-clause-added c = λ lines are.
    let step = rw c.in-Err-Refused.field-0-is at c.in-Err-Refused.ensures.step in
    search_refused by_plan c.args.history.now lines c.args.line.words.now _ _ _ c.in-Err-Refused.answer are c.in_ok-push-in-Err-Refused.ensures.items step.1
    (searched_refused c.args.history.now c.args.line.words.now c.args.line.request.now _ c.requires.asked step.0)
