use Rattle.bf_runs.proofs.Sequences.{leg_leads_on, leg_ready, leg_fewer, leg_places, leg_ending}
use Rattle.bf_runs.proofs.legs.run_leg.Goals as goal

pub returns-clause-leads_on : goal.returns-clause-leads_on
returns-clause-leads_on g c = λ first over.
    leg_leads_on c.args.search c.args.standing.state c.args.standing.table _ _ _ c.in_ok-report.report
    _ c.names.ensures.value c.requires.reach c.in_ok-report.ensures.report c.in_ok-report.ensures.history c.in_ok-report.ensures.sound
    c.in_ok-report.ensures.lacking
    c.in_ok-report.ensures.alone c.in_ok-report.ensures.workers c.in_ok-report.ensures.posted c.len-commits.ensures.graph c.len-places.ensures.below c.requires.ready first over

pub returns-clause-ready : goal.returns-clause-ready
returns-clause-ready g c =
    leg_ready c.args.search c.args.standing.state c.args.standing.table _ _ _ c.in_ok-report.report
    _ c.names.ensures.value c.requires.reach c.in_ok-report.ensures.report c.in_ok-report.ensures.history c.in_ok-report.ensures.sound
    c.in_ok-report.ensures.lacking
    c.in_ok-report.ensures.alone c.in_ok-report.ensures.workers c.in_ok-report.ensures.posted c.len-commits.ensures.graph c.len-places.ensures.below c.requires.ready

pub returns-clause-fewer : goal.returns-clause-fewer
returns-clause-fewer g c =
    leg_fewer c.args.search c.args.standing.state c.args.standing.table _ _ _ c.in_ok-report.report
    _ c.names.ensures.value c.requires.reach c.in_ok-report.ensures.report c.in_ok-report.ensures.history c.in_ok-report.ensures.sound
    c.in_ok-report.ensures.lacking
    c.in_ok-report.ensures.alone c.in_ok-report.ensures.workers c.in_ok-report.ensures.posted c.len-commits.ensures.graph c.len-places.ensures.below c.requires.ready

pub returns-clause-places : goal.returns-clause-places
returns-clause-places g c =
    leg_places c.args.search c.args.standing.state c.args.standing.table _ _ _ c.in_ok-report.report
    _ c.names.ensures.value c.requires.reach c.in_ok-report.ensures.report c.in_ok-report.ensures.history c.in_ok-report.ensures.sound
    c.in_ok-report.ensures.lacking
    c.in_ok-report.ensures.alone c.in_ok-report.ensures.workers c.in_ok-report.ensures.posted c.len-commits.ensures.graph c.len-places.ensures.below c.requires.ready

pub returns-clause-end : goal.returns-clause-end
returns-clause-end g c =
    leg_ending c.args.search c.args.standing.state c.args.standing.table _ _ _ c.in_ok-report.report
    _ c.names.ensures.value c.requires.reach c.in_ok-report.ensures.report c.in_ok-report.ensures.history c.in_ok-report.ensures.sound
    c.in_ok-report.ensures.lacking
    c.in_ok-report.ensures.alone c.in_ok-report.ensures.workers c.in_ok-report.ensures.posted c.len-commits.ensures.graph c.len-places.ensures.below c.requires.ready
