use Rattle.std.proofs.Common.{refl}
use Rattle.bf_answers.specs.Tellings.{begun_of}
use Rattle.bf_journal_run.specs.Kept.{AreLasting}
use Rattle.bf_journal_run.specs.declared.cut.Cut.TheVariants.{NoMemory}
use Rattle.bf_journal_run.specs.Legs.{IsEndedKept, met_disk}
use Rattle.bf_journal_run.proofs.Leading.{err_as}
use Rattle.bf_journal_run.proofs.Recalled.{recall_by}
use Rattle.bf_journal_run.proofs.Starting.{kept_begun, nothing_kept}
use Rattle.bf_output.specs.Shown.{shown_by}
use Rattle.bf_journal_run.proofs.search.run_kept.Goals as goal

pub returns-in_err-running-clause-told : goal.returns-in_err-running-clause-told
returns-in_err-running-clause-told g c =
    let tested = shown_by (recall_by g.T.Tester) c.args.tester.now in
    let disk = met_disk g.J.Disk c.args.disk.now c.args.disk.now in
    let journal = c.args.journal in
    let images = AreLasting g.J.Disk c.args.disk.now c.args.disk.now journal c.args.started.history.names tested journal.kept in
    err_as (IsEndedKept images disk c.args.line.request.now tested c.args.started.history (begun_of c.args.started.first)
    (g.K.Sink.held c.args.out.now) (g.K.Sink.held c.args.out.now)) c.from_residual.result NoMemory c.from_residual.ensures.1
    (nothing_kept g.J.Disk c.args.disk.now journal c.args.line.request.now tested c.args.started.history (begun_of c.args.started.first)
    (g.K.Sink.held c.args.out.now) g.met.J.Disk.only_now c.requires.fits.settled c.requires.fits.bytes)

pub go_through-requires-clause-ready : goal.go_through-requires-clause-ready
go_through-requires-clause-ready g c = λ κs within.
    (c.in_ok-running.ensures (shown_by (recall_by g.T.Tester) c.args.tester.now) c.requires.fresh).ready

pub returns-clause-told : goal.returns-clause-told
returns-clause-told g c =
    c.go_through.ensures.told c.args.line.request.now c.args.journal.kept (begun_of c.args.started.first)
    (kept_begun _ c.args.line.request.now (shown_by (recall_by g.T.Tester) c.args.tester.now) c.args.tester.now.remembered c.args.journal.kept
    (begun_of c.args.started.first) c.in_ok-running.running refl refl c.requires.commits c.requires.remembers c.requires.fresh
    (c.in_ok-running.ensures (shown_by (recall_by g.T.Tester) c.args.tester.now) c.requires.fresh))
