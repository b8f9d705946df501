use Rattle.bf_program.proofs.Sampling.{sample_ready, sample_told, sample_whole}
use Rattle.bf_program.proofs.sample.search_whole.Goals as goal

pub run_leg-requires-clause-ready : goal.run_leg-requires-clause-ready
run_leg-requires-clause-ready g c = λ κs within.
    sample_ready c.args.history.now _ _ _ c.args.first.state _ c.in_ok-standing.ensures.state c.requires.len c.requires.ends c.in_ok-standing.ensures.table

pub returns-clause-tells : goal.returns-clause-tells
returns-clause-tells g c =
    let run = c.in_ok-report.ensures.run c.args.first.state.search in
    sample_told c.args.request.now c.args.history.now c.args.first c.in_ok-standing.standing.state c.in_ok-report.report _
    c.in_ok-tester.ensures.told c.in_ok-report.ensures.ready.known.planned c.in_ok-standing.ensures.state _ run.state
    run.entries run.ending c.in_ok-report.ensures.fault c.summary.result c.summary.ensures.status c.summary.ensures.text

pub returns-clause-whole : goal.returns-clause-whole
returns-clause-whole g c = sample_whole c.in_ok-report.report c.summary.result c.in_ok-report.ensures.fault c.summary.ensures.status
