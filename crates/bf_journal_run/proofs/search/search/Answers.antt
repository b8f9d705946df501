use Rattle.std.proofs.Common.{◌∙◌, ◌≡◌, true, refl, Err, ⊎_elim, ap, length}
use Rattle.bf_answers.proofs.Answering.{mapped}
use Rattle.bf_answers.specs.Devices.{met_sink, met_tester}
use Rattle.bf_answers.specs.Ready.{IsCausedTold, IsConcluded}
use Rattle.bf_answers.specs.Tellings.{begun_of}
use Rattle.bf_commands.specs.Journal.{IsJournalled, IsRunKept, MayBePut, identity_of}
use Rattle.bf_commands.specs.Journal.OpenedJournal.{Kept}
use Rattle.bf_farm.proofs.Asked.{rose_since}
use Rattle.bf_journal_run.specs.declared.cut.Cut.TheVariants.{Output}
use Rattle.bf_journal_run.specs.Kept.{AreLasting}
use Rattle.bf_journal_run.specs.Legs.{met_disk}
use Rattle.bf_journal_run.proofs.Concluding.{another_refused, caused_no_write, fault_refused, images_of_run, kept_concluded, never_refused, of_another, of_failed, opened_at, run_refused, said_disk, said_own, said_test, said_write}
use Rattle.bf_journal_run.proofs.Held.{ended_images, held_images, held_opened}
use Rattle.bf_journal_run.proofs.Recalled.{recall_by}
use Rattle.bf_oid.specs.declared.object.Oid.{Oid}
use Rattle.bf_output.specs.Shown.{shown_by}
use Rattle.bf_journal.specs.Recalling.{Recalling}
use Rattle.bf_journal_run.proofs.search.search.Given.{Over}
use Rattle.bf_journal_run.proofs.search.search.Goals as goal

pub say_kept-requires : goal.say_kept-requires
say_kept-requires g c = record {
  whole = caused_no_write (met_tester (recall_by g.T.Tester) c.args.tester.now c.search_kept-answer.new.tester) c.search_kept-answer.result
      c.search_kept-answer.ensures.cause;
}

-- the run that the words ask for, by its commits
abbrev run_in : (g : Over) → goal.After-say_kept g → Oid
run_in g c = identity_of c.args.started.history c.args.line.request.now c.args.line.words.now

-- what is told of it
concluded_run : (g : Over) (c : goal.After-say_kept g)
    → IsConcluded (IsCausedTold true (met_tester (recall_by g.T.Tester) c.args.tester.now c.search_kept-answer.new.tester)
    (IsRunKept (met_disk g.J.Disk c.args.disk.now c.search_kept-answer.new.disk) (run_in g c) c.in-Ok.journal.kept c.args.line.request.now
    (shown_by (recall_by g.T.Tester) c.search_kept-answer.new.tester) c.args.started.history (begun_of c.args.started.first)))
    (g.K.Sink.held c.args.out.now) (g.K.Sink.held c.say_kept.new.out) c.say_kept.result
concluded_run g c =
    let history = c.args.started.history in
    let journal = c.in-Ok.journal in
    let tester = met_tester (recall_by g.T.Tester) c.args.tester.now c.search_kept-answer.new.tester in
    let images = AreLasting g.J.Disk c.open_journal.new.disk c.search_kept-answer.new.disk journal history.names tester.after journal.kept in
    kept_concluded (met_disk g.J.Disk c.args.disk.now c.search_kept-answer.new.disk)
    (met_disk g.J.Disk c.open_journal.new.disk c.search_kept-answer.new.disk) (run_in g c) journal.kept images c.args.line.request.now
    c.args.line.words.now tester history (begun_of c.args.started.first) c.requires.started.ends
    (λ table lasting. images_of_run g.J.Disk c.args.disk.now c.open_journal.new.disk c.search_kept-answer.new.disk journal (run_in g c) history.names
    tester.after table c.in-Ok.ensures.run c.in-Ok.ensures.commits c.open_journal.ensures.told c.open_journal.ensures.any_moment c.in-Ok.ensures.kept lasting)
    (λ failed. rose_since _ _ _ c.open_journal.ensures.failed.later failed) (g.K.Sink.held c.args.out.now)
    (met_sink g.K.Sink c.search_kept-answer.new.out c.say_kept.new.out) c.search_kept-answer.result c.say_kept.result
    c.search_kept-answer.ensures.told c.search_kept-answer.ensures.cause c.say_kept.ensures.told

pub returns-in-Ok-clause-told : goal.returns-in-Ok-clause-told
returns-in-Ok-clause-told g c =
    let request = c.args.line.request.now in
    let words = c.args.line.words.now in
    let history = c.args.started.history in
    let first = begun_of c.args.started.first in
    let journal = c.in-Ok.journal in
    let tester = met_tester (recall_by g.T.Tester) c.args.tester.now c.search_kept-answer.new.tester in
    let disk = met_disk g.J.Disk c.args.disk.now c.search_kept-answer.new.disk in
    mapped (IsCausedTold true tester (IsRunKept disk (identity_of history request words) journal.kept request tester.after history first))
    (IsCausedTold true tester (IsJournalled disk request words tester.after history first)) _ _ c.say_kept.result
    (λ told is. ((Kept journal.kept, c.in-Ok.ensures.kept, is.0), is.1)) (concluded_run g c)

pub returns-in-Ok-clause-refused : goal.returns-in-Ok-clause-refused
returns-in-Ok-clause-refused g c =
    let tester = met_tester (recall_by g.T.Tester) c.args.tester.now c.search_kept-answer.new.tester in
    let disk = met_disk g.J.Disk c.args.disk.now c.search_kept-answer.new.disk in
    run_refused (IsRunKept disk (run_in g c) c.in-Ok.journal.kept c.args.line.request.now tester.after c.args.started.history (begun_of c.args.started.first))
    tester _ _ c.say_kept.result _
    (never_refused disk (run_in g c) c.in-Ok.journal.kept c.args.line.request.now c.args.line.words.now tester.after c.args.started.history
    (begun_of c.args.started.first) c.requires.started.ends) (concluded_run g c)

pub returns-in-Err-Mismatch-clause-refused : goal.returns-in-Err-Mismatch-clause-refused
returns-in-Err-Mismatch-clause-refused g c =
    another_refused _ _ _ c.in-Err-Mismatch.kept c.say.result _ c.say.ensures.written
    (c.open_journal.ensures.untouched c.in-Err-Mismatch.kept (c.in-Err-Mismatch.is ∙ ap (λ f. Err f) c.in-Err-Mismatch.field-0-is))

pub returns-in-Err-Failed-clause-refused : goal.returns-in-Err-Failed-clause-refused
returns-in-Err-Failed-clause-refused g c = fault_refused _ _ _ c.say-in-Err-Failed.result _ c.say-in-Err-Failed.ensures.written

pub returns-in-Ok-clause-own : goal.returns-in-Ok-clause-own
returns-in-Ok-clause-own g c =
    said_own (met_tester (recall_by g.T.Tester) c.args.tester.now c.search_kept-answer.new.tester)
    (met_sink g.K.Sink c.search_kept-answer.new.out c.say_kept.new.out) c.say_kept.result c.search_kept-answer.result c.search_kept-answer.ensures.cause
    c.say_kept.ensures.told

pub returns-in-Ok-clause-test : goal.returns-in-Ok-clause-test
returns-in-Ok-clause-test g c =
    said_test (met_tester (recall_by g.T.Tester) c.args.tester.now c.search_kept-answer.new.tester)
    (met_sink g.K.Sink c.search_kept-answer.new.out c.say_kept.new.out) c.say_kept.result c.search_kept-answer.result c.search_kept-answer.ensures.cause
    c.say_kept.ensures.told

pub returns-in-Ok-clause-write : goal.returns-in-Ok-clause-write
returns-in-Ok-clause-write g c = λ e.
    said_write _ _ _ (c.search_kept-answer.result ≡ Err Output) c.search_kept-answer.ensures.write.later (c.say_kept.ensures.write e)
    c.search_kept-answer.ensures.write.failed (λ cut. ap g.K.Sink.faults (c.say_kept.ensures.unwritten cut))

pub returns-in-Ok-clause-disk : goal.returns-in-Ok-clause-disk
returns-in-Ok-clause-disk g c = λ e.
    rose_since _ _ _ c.open_journal.ensures.failed.later
    (c.search_kept-answer.ensures.failed.failed
    (said_disk (met_tester (recall_by g.T.Tester) c.args.tester.now c.search_kept-answer.new.tester)
    (met_sink g.K.Sink c.search_kept-answer.new.out c.say_kept.new.out) c.say_kept.result c.search_kept-answer.result c.search_kept-answer.ensures.cause
    c.say_kept.ensures.told e))

pub returns-in-Ok-clause-recalled : goal.returns-in-Ok-clause-recalled
returns-in-Ok-clause-recalled g c = λ some.
    ⊎_elim (λ same. absurd (some (ap (λ (t : Recalling _). t.answers) same ∙ c.requires.fresh)))
    (λ is. record { kept = c.in-Ok.journal.kept; opened = c.in-Ok.ensures.kept; recalled = is }) c.search_kept-answer.ensures.recalled

pub returns-in-Err-Mismatch-clause-told : goal.returns-in-Err-Mismatch-clause-told
returns-in-Err-Mismatch-clause-told g c =
    of_another (met_disk g.J.Disk c.args.disk.now c.open_journal.new.disk) c.args.line.request.now c.args.line.words.now
    (met_tester (recall_by g.T.Tester) c.args.tester.now c.args.tester.now) c.args.started.history (begun_of c.args.started.first) _ _ c.say.result
    c.in-Err-Mismatch.kept
    (c.open_journal.ensures.other c.in-Err-Mismatch.kept (c.in-Err-Mismatch.is ∙ ap (λ f. Err f) c.in-Err-Mismatch.field-0-is))
    (c.open_journal.ensures.alone c.in-Err-Mismatch.kept (c.in-Err-Mismatch.is ∙ ap (λ f. Err f) c.in-Err-Mismatch.field-0-is))
    refl c.say.ensures.written

pub returns-in-Err-Failed-clause-told : goal.returns-in-Err-Failed-clause-told
returns-in-Err-Failed-clause-told g c =
    of_failed (met_disk g.J.Disk c.args.disk.now c.open_journal.new.disk) c.args.line.request.now c.args.line.words.now
    (met_tester (recall_by g.T.Tester) c.args.tester.now c.args.tester.now) c.args.started.history (begun_of c.args.started.first) _ _
    c.say-in-Err-Failed.result (c.open_journal.ensures.failed.failed (c.in-Err-Failed.is ∙ ap (λ f. Err f) c.in-Err-Failed.field-0-is))
    c.requires.fresh (opened_at g.J.Disk c.args.disk.now c.open_journal.new.disk _ _ c.open_journal.ensures.any_moment)
    c.say-in-Err-Failed.ensures.written

-- ---- the disk, with whatever status

pub returns-in-Ok-clause-held : goal.returns-in-Ok-clause-held
returns-in-Ok-clause-held g c =
    let history = c.args.started.history in
    let first = begun_of c.args.started.first in
    let journal = c.in-Ok.journal in
    let tested = shown_by (recall_by g.T.Tester) c.search_kept-answer.new.tester in
    let disk = g.J.Disk in
    let (table, lasting) =
    ended_images (AreLasting disk c.open_journal.new.disk c.search_kept-answer.new.disk journal history.names tested journal.kept)
    (met_disk disk c.open_journal.new.disk c.search_kept-answer.new.disk) c.args.line.request.now tested history first _ _ c.search_kept-answer.result
    c.search_kept-answer.ensures.told in
    held_images (met_disk disk c.args.disk.now c.search_kept-answer.new.disk) (run_in g c) history tested journal.kept table c.in-Ok.ensures.kept
    (images_of_run disk c.args.disk.now c.open_journal.new.disk c.search_kept-answer.new.disk journal (run_in g c) history.names
    tested table c.in-Ok.ensures.run c.in-Ok.ensures.commits c.open_journal.ensures.told c.open_journal.ensures.any_moment c.in-Ok.ensures.kept lasting)

pub returns-in-Err-Mismatch-clause-held : goal.returns-in-Err-Mismatch-clause-held
returns-in-Err-Mismatch-clause-held g c =
    held_opened g.J.Disk g.met.J.Disk.counts_now c.args.disk.now c.open_journal.new.disk
    (identity_of c.args.started.history c.args.line.request.now c.args.line.words.now) (length c.args.started.history.names)
    (MayBePut c.args.started.history.names c.args.tester.now.answers) c.open_journal.ensures.any_moment

pub returns-in-Err-Failed-clause-held : goal.returns-in-Err-Failed-clause-held
returns-in-Err-Failed-clause-held g c =
    held_opened g.J.Disk g.met.J.Disk.counts_now c.args.disk.now c.open_journal.new.disk
    (identity_of c.args.started.history c.args.line.request.now c.args.line.words.now) (length c.args.started.history.names)
    (MayBePut c.args.started.history.names c.args.tester.now.answers) c.open_journal.ensures.any_moment

pub returns-clause-held : goal.returns-clause-held
returns-clause-held g c =
    held_opened g.J.Disk g.met.J.Disk.counts_now c.args.disk.now c.open_journal.new.disk
    (identity_of c.args.started.history c.args.line.request.now c.args.line.words.now) (length c.args.started.history.names)
    (MayBePut c.args.started.history.names c.args.tester.now.answers) c.open_journal.ensures.any_moment
