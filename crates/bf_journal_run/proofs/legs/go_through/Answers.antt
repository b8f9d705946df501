use Rattle.std.proofs.Common.{ℕ, List, [], ◌∙◌, Option, inl, refl, sym, ap, subst, arith, length}
use Rattle.bf_answers.specs.Devices.{met_tester}
use Rattle.std.specs.Prelude.{Err, IsErrOf}
use Rattle.bf_commands.specs.Journal.{KeepsAll}
use Rattle.bf_farm.proofs.Asked.{rose_since}
use Rattle.bf_io.specs.Causes.{Rose}
use Rattle.bf_journal_run.specs.declared.cut.Cut.TheVariants.{Journal, Output}
use Rattle.bf_farm.specs.Reports.{Manner}
use Rattle.bf_io.proofs.Told.{Appends-nil}
use Rattle.bf_journal_run.specs.Cuts.{cut_of_sink}
use Rattle.bf_journal_run.specs.Kept.{AreLasting, IsToKeep, LeavesOn}
use Rattle.bf_journal_run.specs.Legs.{IsEndedKept, met_disk}
use Rattle.bf_journal_run.proofs.Ending.{cut_in_leg, failed_since, flushed_kept, over_kept, unwritten}
use Rattle.bf_journal_run.proofs.Keeping.{nothing_since, since_only, since_part}
use Rattle.bf_journal_run.proofs.Lasting.{kept_leg, lasts_cut, leg_since}
use Rattle.bf_journal_run.proofs.Leading.{err_as, err_other}
use Rattle.bf_journal_run.proofs.Recalled.{recall_by}
use Rattle.bf_output.specs.Shown.{shown_by}
use Rattle.bf_runs.specs.Legs.{IsReady}
use Rattle.bf_search.specs.declared.outcomes.Outcome.{Outcome}
use Rattle.bf_searches.proofs.Going.{cause_since}
use Rattle.bf_journal_run.proofs.legs.go_through.Goals as goal

pub loop-init : goal.loop-init
loop-init g c = record {
  come = λ request opened first is. record {
    written = [];
    gained = Appends-nil _;
    is = is;
    begun = inl refl;
    ever =
        nothing_since g.J.Disk g.met.J.Disk.only_now c.args.disk.now c.args.journal opened (IsToKeep c.args.running.standing.table)
        (since_part opened c.args.running.standing.table c.args.journal.kept is.since)
        (since_only opened c.args.running.standing.table c.args.journal.kept is.since) c.requires.fits.settled c.requires.fits.bytes;
  };
  ready = c.requires.ready;
  later = omega arith;
  later_out = omega arith;
  later_disk = omega arith;
  manner = refl;
  is_split = c.requires.is_split;
  run = (refl, refl);
  sound = c.requires.sound;
  fits = c.requires.fits;
  told_disk = refl;
}

pub go_on_kept-requires-clause-ready : goal.go_on_kept-requires-clause-ready
go_on_kept-requires-clause-ready g c = λ κs within. c.loop.invariant.ready

pub go_on_kept-requires-clause-len : goal.go_on_kept-requires-clause-len
go_on_kept-requires-clause-len g c = λ κs within. c.loop.invariant.run.1 ∙ c.requires.len

pub returns-in_err-answer-clause-told : goal.returns-in_err-answer-clause-told
returns-in_err-answer-clause-told g c = λ request opened first is.
    let come = c.loop.invariant.come request opened first is in
    let tester = met_tester (recall_by g.T.Tester) c.loop.tester c.go_on_kept.new.tester in
    let disk = met_disk g.J.Disk c.args.disk.now c.go_on_kept.new.disk in
    let names = c.args.search.history.now.names in
    let table = c.loop.running.standing.table in
    let images = AreLasting g.J.Disk c.args.disk.now c.go_on_kept.new.disk c.args.journal names tester.after opened in
    let leaves : (ℕ → Outcome → Type 0) → Type 0 = LeavesOn g.J.Disk c.loop.disk c.go_on_kept.new.disk c.loop.journal c.loop.journal.kept in
    err_as (IsEndedKept images disk request tester.after c.args.search.history.now first (g.K.Sink.held c.args.out.now) (g.K.Sink.held c.loop.out))
    c.from_residual.result c.in_err-answer.field-0.0 c.from_residual.ensures.1
    (cut_in_leg images disk c.args.search request first come.written c.loop.running (g.K.Sink.held c.args.out.now) leaves tester
    c.go_on_kept.new.tester.remembered opened c.go_on_kept.new.journal.kept (g.K.Sink.held c.loop.out) c.in_err-answer.field-0.0
    come.is.so_far come.begun come.gained
    (λ known left. lasts_cut g.J.Disk c.args.journal c.loop.journal names tester.after opened table c.loop.invariant.run come.is.since
    (subst (λ b. KeepsAll b c.loop.journal.kept table) (sym (ap (λ (m : Manner). m.is_lenient) c.in_err-answer.ensures.manner)) come.is.all) known.answered
    c.args.disk.now c.loop.disk c.go_on_kept.new.disk g.met.J.Disk.counts_now c.loop.invariant.told_disk come.ever left)
    (failed_since _ _ _ (Err c.in_err-answer.field-0.0) c.in_err-answer.field-0.0 c.loop.invariant.later_disk refl c.in_err-answer.ensures.failed)
    (c.in_err-answer.ensures.goes request opened first come.written come.is))

pub returns-in_err-answer-clause-write : goal.returns-in_err-answer-clause-write
returns-in_err-answer-clause-write g c = record {
  later = c.loop.invariant.later_out;
  failed = err_as (λ r. IsErrOf r Output → Rose (g.K.Sink.faults c.args.out.now) (g.K.Sink.faults c.loop.out)) c.from_residual.result
      c.in_err-answer.field-0.0 c.from_residual.ensures.1
      (λ e. absurd {A = Rose (g.K.Sink.faults c.args.out.now) (g.K.Sink.faults c.loop.out)} (c.in_err-answer.ensures.no_output (err_other c.in_err-answer.field-0.0 Output e)));
}

pub returns-in_err-answer-clause-failed : goal.returns-in_err-answer-clause-failed
returns-in_err-answer-clause-failed g c = record {
  later = (let before = c.loop.invariant.later_disk in let now = c.in_err-answer.ensures.failed.later in omega arith);
  failed = err_as (λ r. IsErrOf r Journal → Rose (g.J.Disk.faults c.args.disk.now) (g.J.Disk.faults c.go_on_kept.new.disk)) c.from_residual.result
      c.in_err-answer.field-0.0 c.from_residual.ensures.1
      (λ e. rose_since (g.J.Disk.faults c.args.disk.now) (g.J.Disk.faults c.loop.disk) (g.J.Disk.faults c.go_on_kept.new.disk) c.loop.invariant.later_disk
      (c.in_err-answer.ensures.failed.failed (err_other c.in_err-answer.field-0.0 Journal e)));
}

pub returns-in-Over-clause-told : goal.returns-in-Over-clause-told
returns-in-Over-clause-told g c = λ request opened first is.
    let come = c.loop.invariant.come request opened first is in
    let tester = met_tester (recall_by g.T.Tester) c.loop.tester c.go_on_kept.new.tester in
    let disk = met_disk g.J.Disk c.args.disk.now c.go_on_kept.new.disk in
    let fits = c.in_ok-answer.ensures.fits in
    let names = c.args.search.history.now.names in
    let leaves : (ℕ → Outcome → Type 0) → Type 0 = LeavesOn g.J.Disk c.loop.disk c.go_on_kept.new.disk c.loop.journal c.loop.journal.kept in
    over_kept (AreLasting g.J.Disk c.args.disk.now c.go_on_kept.new.disk c.args.journal names tester.after opened) disk c.args.search request first
    come.written c.loop.running (g.K.Sink.held c.args.out.now) leaves tester c.go_on_kept.new.tester.remembered opened c.go_on_kept.new.journal.kept
    c.loop.running.standing.table (g.K.Sink.held c.loop.out) c.in-Over.answer come.gained
    (λ table answered on. kept_leg g.J.Disk c.args.disk.now c.loop.disk c.go_on_kept.new.disk c.args.journal c.loop.journal c.go_on_kept.new.journal names tester.after opened
    c.loop.running.standing.table table c.loop.invariant.told_disk c.in_ok-answer.ensures.told c.loop.invariant.run c.in_ok-answer.ensures.run come.is.since
    come.ever answered on fits.settled fits.bytes)
    (rw c.in-Over.is at (c.in_ok-answer.ensures.goes request opened first come.written come.is))

pub returns-in-Over-clause-cause : goal.returns-in-Over-clause-cause
returns-in-Over-clause-cause g c =
    cause_since _ _ _ c.in-Over.answer.status c.loop.invariant.later (rw c.in-Over.is at c.in_ok-answer.ensures.cause)

pub returns-in_err-write_and_flush-clause-told : goal.returns-in_err-write_and_flush-clause-told
returns-in_err-write_and_flush-clause-told g c = λ request opened first is.
    let come = c.loop.invariant.come request opened first is in
    let (next, on) = rw c.in-On.is at (c.in_ok-answer.ensures.goes request opened first come.written come.is) in
    let tester = met_tester (recall_by g.T.Tester) c.loop.tester c.go_on_kept.new.tester in
    let disk = met_disk g.J.Disk c.args.disk.now c.go_on_kept.new.disk in
    let fits = c.in_ok-answer.ensures.fits in
    let names = c.args.search.history.now.names in
    let images = AreLasting g.J.Disk c.args.disk.now c.go_on_kept.new.disk c.args.journal names tester.after opened in
    err_as (IsEndedKept images disk request tester.after c.args.search.history.now first (g.K.Sink.held c.args.out.now)
    (g.K.Sink.held c.write_and_flush.new.out))
    c.from_residual-in_err-write_and_flush.result (cut_of_sink c.in_err-write_and_flush.field-0.0) c.from_residual-in_err-write_and_flush.ensures.1
    (unwritten images disk c.args.search request first come.written c.in-On.next (g.K.Sink.held c.args.out.now) tester.after (g.K.Sink.held c.loop.out)
    (g.K.Sink.held c.write_and_flush.new.out) c.in_err-write_and_flush.field-0.0 next.so_far come.gained
    (rw c.as_slice.ensures at c.in_err-write_and_flush.ensures.front)
    (kept_leg g.J.Disk c.args.disk.now c.loop.disk c.go_on_kept.new.disk c.args.journal c.loop.journal c.go_on_kept.new.journal names tester.after opened
    c.loop.running.standing.table c.in-On.next.standing.table c.loop.invariant.told_disk c.in_ok-answer.ensures.told c.loop.invariant.run
    c.in_ok-answer.ensures.run come.is.since come.ever next.so_far.between.known.answered on fits.settled fits.bytes))

pub loop-preserved : goal.loop-preserved
loop-preserved g c = record {
  come = λ request opened first is.
      let come = c.loop.invariant.come request opened first is in
      let (next, on) = rw c.in-On.is at (c.in_ok-answer.ensures.goes request opened first come.written come.is) in
      flushed_kept (λ (table : List (Option Outcome)). LeavesOn g.J.Disk c.args.disk.now c.go_on_kept.new.disk c.args.journal opened (IsToKeep table))
      c.args.search request (shown_by (recall_by g.T.Tester) c.go_on_kept.new.tester) c.go_on_kept.new.tester.remembered opened
      c.go_on_kept.new.journal.kept first (g.K.Sink.held c.args.out.now) (g.K.Sink.held c.loop.out) (g.K.Sink.held c.write_and_flush.new.out) come.written
      c.in-On.next c.clear.new.self next come.gained (rw c.as_slice.ensures at c.in_ok-write_and_flush.ensures.whole) c.clear.ensures
      (leg_since g.J.Disk c.args.disk.now c.loop.disk c.go_on_kept.new.disk c.args.journal c.loop.journal opened c.loop.running.standing.table
      c.in-On.next.standing.table c.loop.invariant.told_disk c.loop.invariant.run come.is.since on.grows come.ever on.leaves);
  ready =
      subst (λ (told : Option (List Outcome)). IsReady c.args.search.history.now.parents c.args.search.history.now.names told
      c.go_on_kept.new.tester.answers c.in-On.next.standing.state c.in-On.next.standing.table)
      (sym (ap (λ (m : Manner). m.told) c.in_ok-answer.ensures.manner)) (rw c.in-On.is at c.in_ok-answer.ensures.next);
  later = (let before = c.loop.invariant.later in let now = c.in_ok-answer.ensures.later in omega arith);
  later_out = (let before = c.loop.invariant.later_out in let now = c.in_ok-write_and_flush.ensures.cause.later in omega arith);
  later_disk = (let before = c.loop.invariant.later_disk in let now = c.in_ok-answer.ensures.failed.later in omega arith);
  manner = c.in_ok-answer.ensures.manner ∙ c.loop.invariant.manner;
  is_split = c.in_ok-answer.ensures.is_split;
  run = (c.in_ok-answer.ensures.run.0 ∙ c.loop.invariant.run.0, c.in_ok-answer.ensures.run.1 ∙ c.loop.invariant.run.1);
  sound = c.in_ok-answer.ensures.sound;
  fits = c.in_ok-answer.ensures.fits;
  told_disk = c.in_ok-answer.ensures.told ∙ c.loop.invariant.told_disk;
}
