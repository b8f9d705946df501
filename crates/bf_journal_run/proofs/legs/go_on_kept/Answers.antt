use Rattle.std.proofs.Common.{ℕ, ap, inl}
use Rattle.bf_answers.specs.Devices.{met_tester}
use Rattle.bf_commands.specs.Journal.{MayBePut}
use Rattle.bf_farm.specs.Reports.{Manner}
use Rattle.bf_journal_run.specs.Cuts.{cut_of_journal}
use Rattle.bf_journal_run.specs.Kept.{IsToKeep, LeavesOn}
use Rattle.bf_journal_run.specs.Legs.{IsLedKept}
use Rattle.bf_journal_run.specs.declared.cut.Cut.TheVariants.{NoMemory}
use Rattle.bf_journal_run.proofs.Keeping.{answered_put, nothing_since, on_within, part_itself}
use Rattle.bf_journal_run.proofs.Leading.{err_as, keeping_failed, keeping_no_output, led, led_cut, leg_caused, leg_ready}
use Rattle.bf_journal_run.proofs.Recalled.{recall_by}
use Rattle.bf_runs.proofs.Known.{known_later}
use Rattle.bf_search.specs.declared.outcomes.Outcome.{Outcome}
use Rattle.bf_search.specs.Outcomes.{outcomes_of_table}
use Rattle.bf_journal_run.proofs.legs.go_on_kept.Goals as goal

pub returns-in_err-report-clause-goes : goal.returns-in_err-report-clause-goes
returns-in_err-report-clause-goes g c = λ request opened first written is.
    let journal = c.args.journal.now in
    let tester = met_tester (recall_by g.T.Tester) c.args.tester.now c.run_leg.new.tester in
    let names = c.args.search.history.now.names in
    err_as (IsLedKept (LeavesOn g.J.Disk c.args.disk.now c.args.disk.now journal journal.kept) c.args.search request
    tester c.run_leg.new.tester.remembered opened
    first written journal.kept c.args.running.standing.table) c.from_residual.result NoMemory c.from_residual.ensures.1 (
      known_later names tester.before.plan tester.after.plan tester.before.answers tester.after.answers c.args.running.standing.table
          (ap (λ (m : Manner). m.told) c.in_err-report.ensures.manner) c.in_err-report.ensures.own is.so_far.between.known,
      nothing_since g.J.Disk g.met.J.Disk.only_now c.args.disk.now journal journal.kept
          (MayBePut names tester.after.answers) (part_itself (outcomes_of_table journal.kept))
          (λ p outcome was. inl was) c.requires.fits.settled c.requires.fits.bytes,
    )

pub returns-in_err-keep_table-clause-goes : goal.returns-in_err-keep_table-clause-goes
returns-in_err-keep_table-clause-goes g c = λ request opened first written is.
    let journal = c.args.journal.now in
    let tester = met_tester (recall_by g.T.Tester) c.args.tester.now c.run_leg.new.tester in
    let report = c.in_ok-report.report in
    let leaves : (ℕ → Outcome → Type 0) → Type 0 = LeavesOn g.J.Disk c.args.disk.now c.keep_table.new.disk journal journal.kept in
    let names = c.args.search.history.now.names in
    err_as (IsLedKept leaves c.args.search request tester c.run_leg.new.tester.remembered opened
    first written c.keep_table.new.journal.kept c.args.running.standing.table) c.from_residual-in_err-keep_table.result
    (cut_of_journal c.in_err-keep_table.field-0.0) c.from_residual-in_err-keep_table.ensures.1
    (led_cut leaves c.args.search c.args.running tester report request
    c.args.tester.now.remembered c.run_leg.new.tester.remembered opened first written journal.kept c.keep_table.new.journal.kept is
    c.in_ok-report.ensures.run c.in_ok-report.ensures.leads_on c.in_ok-report.ensures.ready (ap (λ (m : Manner). m.told) c.in_ok-report.ensures.manner)
    (ap (λ (m : Manner). m.recalled) c.in_ok-report.ensures.manner) c.in_err-keep_table.field-0.0
    (on_within g.J.Disk c.args.disk.now c.keep_table.new.disk journal journal.kept (IsToKeep report.table)
    (MayBePut names tester.after.answers)
    (answered_put names tester.after.answers report.table c.in_ok-report.ensures.ready.known.answered)
    c.keep_table.ensures.any_moment))

pub returns-in_err-keep_table-clause-failed : goal.returns-in_err-keep_table-clause-failed
returns-in_err-keep_table-clause-failed g c =
    keeping_failed _ _ c.in_err-keep_table.field-0.0 c.from_residual-in_err-keep_table.result c.from_residual-in_err-keep_table.ensures.1
    c.in_err-keep_table.ensures.failed c.in_err-keep_table.ensures.no_mismatch

pub returns-in_err-keep_table-clause-no_output : goal.returns-in_err-keep_table-clause-no_output
returns-in_err-keep_table-clause-no_output g c =
    keeping_no_output c.in_err-keep_table.field-0.0 c.from_residual-in_err-keep_table.result c.from_residual-in_err-keep_table.ensures.1

pub returns-clause-goes : goal.returns-clause-goes
returns-clause-goes g c = λ request opened first written is.
    let journal = c.args.journal.now in
    let tester = met_tester (recall_by g.T.Tester) c.args.tester.now c.run_leg.new.tester in
    let report = c.in_ok-report.report in
    let leaves : (ℕ → Outcome → Type 0) → Type 0 = LeavesOn g.J.Disk c.args.disk.now c.keep_table.new.disk journal journal.kept in
    let names = c.args.search.history.now.names in
    led leaves c.args.search c.args.running tester report request
    c.args.tester.now.remembered c.run_leg.new.tester.remembered opened first written journal.kept c.keep_table.new.journal.kept is
    c.in_ok-report.ensures.run c.in_ok-report.ensures.leads_on c.in_ok-report.ensures.ready (ap (λ (m : Manner). m.told) c.in_ok-report.ensures.manner)
    (ap (λ (m : Manner). m.recalled) c.in_ok-report.ensures.manner) c.tell_leg.result _ c.in_ok-keep_table.ensures.kept c.keep_table.ensures.any_moment
    (on_within g.J.Disk c.args.disk.now c.keep_table.new.disk journal journal.kept (IsToKeep report.table)
    (MayBePut names tester.after.answers)
    (answered_put names tester.after.answers report.table c.in_ok-report.ensures.ready.known.answered)
    c.keep_table.ensures.any_moment)
    c.inner-below.ensures.kept c.tell_leg.ensures.told c.tell_leg.ensures.memory

pub returns-clause-cause : goal.returns-clause-cause
returns-clause-cause g c =
    leg_caused _ _ c.args.search.history.now c.args.running.telling c.in_ok-report.report c.tell_leg.result c.in_ok-report.ensures.fault c.tell_leg.ensures.told

pub returns-clause-next : goal.returns-clause-next
returns-clause-next g c =
    leg_ready _ _ c.args.search.history.now c.args.running.telling c.in_ok-report.report c.tell_leg.result c.in_ok-report.ensures.ready
    c.tell_leg.ensures.told
