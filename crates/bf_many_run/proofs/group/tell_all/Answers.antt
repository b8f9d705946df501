use Rattle.std.proofs.Common.{◌≡◌, List, length, arith}
use Rattle.bf_output.specs.Told.{Told}
use Rattle.bf_tester.specs.contracts.plan_tester.PlanTesterTester.TheImpl.{ghosts as by_plan}
use Rattle.bf_many_run.proofs.Joining.{all_told_of, next_ready, room_for_next, telling_begun, telling_more, telling_over, whole_of}
use Rattle.bf_many_run.specs.Groups.{all_told}
use Rattle.bf_many_run.proofs.group.tell_all.Given.{Over}
use Rattle.bf_many_run.proofs.group.tell_all.Goals as goal

pub loop-slot-init : goal.loop-slot-init
loop-slot-init g c =
    telling_begun by_plan c.args.search.history.now c.new-texts.result c.args.group.slots.items c.into_iter-slot-iterator.result.rest.items
    c.args.group.testers.items c.into_iter-testers.result.rest.items c.args.tables.items c.into_iter-tables.result.rest.items c.new-texts.ensures.count
    c.new-texts.ensures.status c.new-texts.ensures.text c.into_iter-slot-iterator.ensures.into_iter_gives.0 c.into_iter-testers.ensures.rest
    c.into_iter-tables.ensures.rest c.requires.ready c.requires.few

pub tell_slot-requires-clause-ready : goal.tell_slot-requires-clause-ready
tell_slot-requires-clause-ready g c = λ κs lives.
    next_ready by_plan c.args.search.history.now _ c.loop-slot.texts c.loop-slot.slot-iterator.rest.items c.in-Some.slot c.next.new.self.rest.items
    c.loop-slot.testers.rest.items c.loop-slot.tables.rest.items c.loop-slot.invariant c.in-Some.ensures.steps.0

pub add-requires : goal.add-requires
add-requires g c = record {
  count = room_for_next by_plan c.args.search.history.now _ c.loop-slot.texts c.loop-slot.slot-iterator.rest.items c.in-Some.slot
      c.next.new.self.rest.items c.loop-slot.testers.rest.items c.loop-slot.tables.rest.items c.loop-slot.invariant c.in-Some.ensures.steps.0;
}

pub loop-slot-preserved : goal.loop-slot-preserved
loop-slot-preserved g c =
    telling_more by_plan c.args.search.history.now _ c.loop-slot.texts c.add.new.self c.loop-slot.slot-iterator.rest.items c.in-Some.slot
    c.next.new.self.rest.items c.loop-slot.testers.rest.items c.tell_slot.new.testers.rest.items c.loop-slot.tables.rest.items
    c.tell_slot.new.tables.rest.items c.in_ok-answer.answer c.loop-slot.invariant c.in-Some.ensures.steps.0 c.tell_slot.ensures.testers
    c.tell_slot.ensures.tables c.in_ok-answer.ensures.told c.in_ok-answer.ensures.whole c.in_ok-add.ensures

-- what all slots tell
abbrev whole_of_group : (g : Over) → goal.After-drop-testers-2 g → List Told
whole_of_group g c = all_told by_plan c.args.search.history.now c.args.group.slots.items c.args.group.testers.items

pub returns-clause-told : goal.returns-clause-told
returns-clause-told g c =
    let none : length c.loop-slot.slot-iterator.rest.items ≡ 0 = omega (arith, c.in-None.ensures.steps.0, c.loop-slot.slot-iterator.rest.ok.0) in
    all_told_of (whole_of_group g c) c.loop-slot.texts c.into_answer.result
    (telling_over by_plan c.args.search.history.now (whole_of_group g c) c.loop-slot.texts c.loop-slot.slot-iterator.rest.items c.loop-slot.testers.rest.items
    c.loop-slot.tables.rest.items c.loop-slot.invariant none) c.into_answer.ensures

pub returns-clause-whole : goal.returns-clause-whole
returns-clause-whole g c =
    let none : length c.loop-slot.slot-iterator.rest.items ≡ 0 = omega (arith, c.in-None.ensures.steps.0, c.loop-slot.slot-iterator.rest.ok.0) in
    whole_of (whole_of_group g c) c.loop-slot.texts c.into_answer.result
    (telling_over by_plan c.args.search.history.now (whole_of_group g c) c.loop-slot.texts c.loop-slot.slot-iterator.rest.items c.loop-slot.testers.rest.items
    c.loop-slot.tables.rest.items c.loop-slot.invariant none) c.into_answer.ensures
