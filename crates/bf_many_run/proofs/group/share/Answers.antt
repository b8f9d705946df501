use Rattle.std.proofs.Common.{ap, ◌∙◌, arith}
use Rattle.bf_tester.specs.contracts.plan_tester.PlanTesterTester.TheImpl.{ghosts as by_plan}
use Rattle.bf_many_run.proofs.Sharing.{shared_case, shared_known, shared_told, testers_lent, whole_lent}
use Rattle.bf_many_run.specs.Groups.{searches_in}
use Rattle.bf_many_run.proofs.group.share.Goals as goal

pub run_shared-requires-clause-case : goal.run_shared-requires-clause-case
run_shared-requires-clause-case g c = λ κs lives.
    let all = shared_case by_plan c.args.search.history.now c.len-len.result c.args.group.now.slots.items c.args.group.now.testers.items
    c.args.search.reach.now c.names-names.result.now c.in_ok-searches.searches.items c.requires.reach c.names-names.ensures.len c.len-len.ensures.len
    (c.in_ok-searches.ensures ∙ ap (searches_in c.len-len.result) c.as_slice.ensures.value) c.requires.few c.requires.begun in
    record { few = all.0; each = all.1; named = all.2 }

pub run_shared-requires-clause-testers : goal.run_shared-requires-clause-testers
run_shared-requires-clause-testers g c = λ κs lives.
    testers_lent by_plan c.args.search.history.now c.args.group.now.slots.items c.args.group.now.testers.items c.as_mut_slice-testers.result.now
    c.as_mut_slice-testers.result.now c.args.group.now.testers.len c.as_mut_slice-testers.ensures.value (omega (arith, c.args.group.now.testers.ok.0))
    c.requires.begun c.len-len.result c.names-names.result.now c.in_ok-searches.searches.items c.names-names.ensures.value
    (c.in_ok-searches.ensures ∙ ap (searches_in c.len-len.result) c.as_slice.ensures.value)

pub run_shared-requires-clause-is_split : goal.run_shared-requires-clause-is_split
run_shared-requires-clause-is_split g c = λ κs lives.
    whole_lent by_plan c.args.search.history.now c.args.group.now.slots.items c.args.group.now.testers.items c.as_mut_slice-testers.result.now
    c.as_mut_slice-testers.result.now c.args.group.now.testers.len c.as_mut_slice-testers.ensures.value (omega (arith, c.args.group.now.testers.ok.0))
    c.requires.begun

pub returns-clause-known : goal.returns-clause-known
returns-clause-known g c =
    shared_known by_plan c.args.search.history.now c.args.group.now.slots.items c.args.group.now.testers.items c.as_mut_slice-testers.result.now
    c.run_shared.new.testers c.args.group.now.testers.len c.as_mut_slice-testers.ensures.value (omega (arith, c.args.group.now.testers.ok.0))
    c.requires.begun c.in_ok-shared.ensures.manner c.names-names.result.now c.args.search.reach.now c.in_ok-shared.shared.tables.items
    c.names-names.ensures.value c.requires.reach c.in_ok-shared.ensures.is_split c.in_ok-shared.ensures.tables c.in_ok-shared.ensures.long

pub returns-clause-told : goal.returns-clause-told
returns-clause-told g c =
    shared_told by_plan c.args.search.history.now c.args.group.now.slots.items c.args.group.now.testers.items c.as_mut_slice-testers.result.now
    c.run_shared.new.testers c.args.group.now.testers.len c.as_mut_slice-testers.ensures.value (omega (arith, c.args.group.now.testers.ok.0))
    c.requires.begun c.in_ok-shared.ensures.manner
