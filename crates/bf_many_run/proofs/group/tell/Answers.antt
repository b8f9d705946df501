use Rattle.bf_many_run.proofs.Telling.{run_is_whole, run_told}
use Rattle.bf_many_run.proofs.group.tell.Goals as goal

pub returns-clause-told : goal.returns-clause-told
returns-clause-told g c =
    run_told c.args.search c.args.begun c.in_ok-report.report _ _ 0 0 c.finish.result c.requires.whole c.requires.ready.trace c.requires.ready.plan
    (c.in_ok-report.ensures.run c.args.begun.state.search) c.in_ok-report.ensures.ready.known.planned c.in_ok-report.ensures.fault c.finish.ensures

pub returns-clause-whole : goal.returns-clause-whole
returns-clause-whole g c =
    run_is_whole c.args.search c.args.begun c.in_ok-report.report _ _ 0 0 c.finish.result c.requires.whole c.requires.ready.trace c.requires.ready.plan
    (c.in_ok-report.ensures.run c.args.begun.state.search) c.in_ok-report.ensures.ready.known.planned c.in_ok-report.ensures.fault c.finish.ensures
