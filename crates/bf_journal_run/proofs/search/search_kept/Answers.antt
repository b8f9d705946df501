use Rattle.std.proofs.Common.{List, subst, sym, ap, ◌∙◌, length, inl, inr}
use Rattle.bf_answers.specs.Tellings.{begun_of}
use Rattle.bf_farm.specs.Reports.{Manner}
use Rattle.bf_journal_run.specs.declared.cut.Cut.TheVariants.{NoMemory}
use Rattle.bf_journal_run.specs.Legs.{IsEndedKept, met_disk}
use Rattle.bf_journal_run.proofs.Kept.{all_new}
use Rattle.bf_journal_run.proofs.Leading.{err_as}
use Rattle.bf_journal_run.proofs.Output.{remembering_none}
use Rattle.bf_journal_run.proofs.Preparing.{before_prepared, remembered_kept, unused_by, used_by}
use Rattle.bf_journal_run.proofs.Recalled.{recall_by}
use Rattle.bf_journal_run.proofs.Starting.{nothing_kept}
use Rattle.bf_journal_run.specs.Kept.{AreLasting, answers_of}
use Rattle.bf_oid.specs.declared.object.Oid.{Oid}
use Rattle.bf_journal.specs.Recalling.{Recalling, remembering}
use Rattle.bf_journal.specs.Remembered.{AreNew}
use Rattle.bf_tester.specs.declared.answer.Answer.{Answer as Answered}
use Rattle.bf_output.specs.Shown.{shown_by}
use Rattle.bf_journal_run.proofs.search.search_kept.Goals as goal

pub returns-in_err-kept-clause-told : goal.returns-in_err-kept-clause-told
returns-in_err-kept-clause-told g c =
    let tested = shown_by (recall_by g.T.Tester) c.args.tester.now in
    let disk = met_disk g.J.Disk c.args.disk.now c.args.disk.now in
    let journal = c.args.journal in
    err_as (IsEndedKept (AreLasting g.J.Disk c.args.disk.now c.args.disk.now journal c.args.started.history.names tested journal.kept) disk c.args.line.request.now tested
    c.args.started.history (begun_of c.args.started.first) (g.K.Sink.held c.args.out.now) (g.K.Sink.held c.args.out.now))
    c.from_residual.result NoMemory c.from_residual.ensures.1
    (nothing_kept g.J.Disk c.args.disk.now journal c.args.line.request.now tested c.args.started.history (begun_of c.args.started.first)
    (g.K.Sink.held c.args.out.now) g.met.J.Disk.only_now c.requires.fits.settled c.requires.fits.bytes)

pub returns-in_err-kept-clause-used : goal.returns-in_err-kept-clause-used
returns-in_err-kept-clause-used g c = inl (ap (shown_by (recall_by g.T.Tester)) (sym (remembering_none c.args.tester.now c.requires.remembers)))

pub remember-requires-clause-new : goal.remember-requires-clause-new
remember-requires-clause-new g c = λ κs within.
    subst (AreNew c.args.tester.now.remembered)
    (sym (c.as_slice.ensures.value ∙ c.in_ok-kept.ensures ∙ ap (λ (names : List Oid). answers_of names c.args.journal.kept) c.names.ensures.value))
    (all_new c.args.started.history.names c.args.journal.kept c.args.tester.now.remembered c.requires.remembers)

pub returns-in_err-remember-clause-told : goal.returns-in_err-remember-clause-told
returns-in_err-remember-clause-told g c =
    let tested = shown_by (recall_by g.T.Tester) c.remember.new.self in
    let disk = met_disk g.J.Disk c.args.disk.now c.args.disk.now in
    let journal = c.args.journal in
    err_as (IsEndedKept (AreLasting g.J.Disk c.args.disk.now c.args.disk.now journal c.args.started.history.names tested journal.kept) disk c.args.line.request.now tested
    c.args.started.history (begun_of c.args.started.first) (g.K.Sink.held c.args.out.now) (g.K.Sink.held c.args.out.now))
    c.from_residual-in_err-remember.result NoMemory c.from_residual-in_err-remember.ensures.1
    (nothing_kept g.J.Disk c.args.disk.now journal c.args.line.request.now tested c.args.started.history (begun_of c.args.started.first)
    (g.K.Sink.held c.args.out.now) g.met.J.Disk.only_now c.requires.fits.settled c.requires.fits.bytes)

pub returns-in_err-remember-clause-used : goal.returns-in_err-remember-clause-used
returns-in_err-remember-clause-used g c =
    let old = c.args.tester.now in
    let same = c.in_err-remember.ensures.err in
    inl (ap (shown_by (recall_by g.T.Tester))
    (same ∙ sym (ap (λ (r : List Answered). remembering old r) (ap (λ (t : Recalling _). t.remembered) same) ∙ remembering_none old c.requires.remembers)))

pub returns-in_err-prepare-clause-told : goal.returns-in_err-prepare-clause-told
returns-in_err-prepare-clause-told g c =
    let tested = shown_by (recall_by g.T.Tester) c.prepare.new.self in
    let disk = met_disk g.J.Disk c.args.disk.now c.args.disk.now in
    let journal = c.args.journal in
    err_as (IsEndedKept (AreLasting g.J.Disk c.args.disk.now c.args.disk.now journal c.args.started.history.names tested journal.kept) disk c.args.line.request.now tested
    c.args.started.history (begun_of c.args.started.first) (g.K.Sink.held c.args.out.now) (g.K.Sink.held c.args.out.now))
    c.from_residual-in_err-prepare.result NoMemory c.from_residual-in_err-prepare.ensures.1
    (nothing_kept g.J.Disk c.args.disk.now journal c.args.line.request.now tested c.args.started.history (begun_of c.args.started.first)
    (g.K.Sink.held c.args.out.now) g.met.J.Disk.only_now c.requires.fits.settled c.requires.fits.bytes)

pub returns-in_err-prepare-clause-used : goal.returns-in_err-prepare-clause-used
returns-in_err-prepare-clause-used g c =
    let ok = c.in_ok-remember.ensures.ok in
    unused_by c.args.line.request.now c.args.line.words.now _ _ _
    (before_prepared g.T.Tester c.args.tester.now c.remember.new.self c.prepare.new.self c.as_slice.result.now c.requires.remembers ok
    c.prepare.ensures.recalled)
    c.in_err-prepare.ensures.err_told c.in_err-prepare.ensures.err_command c.in_err-prepare.ensures.err_read
    (c.prepare.ensures.answers ∙ sym (ap (λ (t : Recalling _). t.answers) ok ∙ c.requires.fresh)) c.prepare.ensures.faults c.prepare.ensures.failed
    c.prepare.ensures.is_split

pub run_kept-requires-clause-remembers : goal.run_kept-requires-clause-remembers
run_kept-requires-clause-remembers g c = λ κs within.
    c.prepare.ensures.recalled
    ∙ remembered_kept c.args.tester.now c.remember.new.self c.as_slice.result.now c.requires.remembers c.in_ok-remember.ensures.ok
    ∙ c.as_slice.ensures.value ∙ c.in_ok-kept.ensures ∙ ap (λ (names : List Oid). answers_of names c.args.journal.kept) c.names.ensures.value

pub run_kept-requires-clause-commits : goal.run_kept-requires-clause-commits
run_kept-requires-clause-commits g c = λ κs within. sym (ap length c.names.ensures.value) ∙ c.names.ensures.len ∙ sym c.requires.len

pub run_kept-requires-clause-is_split : goal.run_kept-requires-clause-is_split
run_kept-requires-clause-is_split g c = λ κs within.
    c.prepare.ensures.is_split ∙ ap (λ (t : Recalling _). g.T.Tester.is_split t.inner) c.in_ok-remember.ensures.ok ∙ c.requires.is_split

pub returns-clause-recalled : goal.returns-clause-recalled
returns-clause-recalled g c =
    inr (ap (λ (m : Manner). m.recalled) c.run_kept.ensures.manner
    ∙ c.prepare.ensures.recalled
    ∙ remembered_kept c.args.tester.now c.remember.new.self c.as_slice.result.now c.requires.remembers c.in_ok-remember.ensures.ok
    ∙ c.as_slice.ensures.value ∙ c.in_ok-kept.ensures ∙ ap (λ (names : List Oid). answers_of names c.args.journal.kept) c.names.ensures.value)

pub returns-in_err-prepare-clause-recalled : goal.returns-in_err-prepare-clause-recalled
returns-in_err-prepare-clause-recalled g c =
    inr (c.prepare.ensures.recalled
    ∙ remembered_kept c.args.tester.now c.remember.new.self c.as_slice.result.now c.requires.remembers c.in_ok-remember.ensures.ok
    ∙ c.as_slice.ensures.value ∙ c.in_ok-kept.ensures ∙ ap (λ (names : List Oid). answers_of names c.args.journal.kept) c.names.ensures.value)

pub returns-clause-used : goal.returns-clause-used
returns-clause-used g c =
    let ok = c.in_ok-remember.ensures.ok in
    let manner = c.run_kept.ensures.manner in
    used_by c.args.line.request.now c.args.line.words.now _ _ (shown_by (recall_by g.T.Tester) c.prepare.new.self) _
    (before_prepared g.T.Tester c.args.tester.now c.remember.new.self c.run_kept.new.tester c.as_slice.result.now c.requires.remembers ok
    (ap (λ (m : Manner). m.recalled) manner ∙ c.prepare.ensures.recalled))
    (c.in_ok-prepare.ensures.command ∙ c.command_of.ensures) c.in_ok-prepare.ensures.read c.in_ok-prepare.ensures.told
    (ap (λ (m : Manner). m.told) manner) (ap (λ (m : Manner). m.command) manner) (ap (λ (m : Manner). m.is_lenient) manner)
    (c.run_kept.ensures.is_split ∙ sym (ap (λ (t : Recalling _). g.T.Tester.is_split t.inner) ok ∙ c.requires.is_split))
