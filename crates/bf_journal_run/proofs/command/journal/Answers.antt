use Rattle.std.proofs.Common.{ℕ, Result, refl, ap, sym, subst, ◌∙◌}
use Rattle.bf_answers.proofs.Answering.{read_cause, shelf_cause}
use Rattle.bf_answers.proofs.Complete.{complete}
use Rattle.bf_answers.specs.Answers.{HasTestCause}
use Rattle.bf_answers.specs.declared.line.RequestLine.{RequestLine}
use Rattle.bf_answers.specs.Devices.{Met, met, met_shelf, met_sink, met_source, met_tester}
use Rattle.bf_commands.specs.Journal.{DiskMet, request_to_journal}
use Rattle.bf_journal_run.specs.Held.{IsHeldBy}
use Rattle.bf_journal_run.specs.Journalling.{IsRecalledBy, to_journal}
use Rattle.bf_journal_run.specs.Legs.{met_disk}
use Rattle.bf_journal_run.proofs.Asking.{run_asked}
use Rattle.bf_journal_run.proofs.Held.{held_ready, held_refused}
use Rattle.bf_journal_run.proofs.Output.{answered, asks_disk, reads_always, recalled, refused, remembering_none, tests_run, used_for, refused_used, refused_recalled, unasked_none}
use Rattle.bf_journal_run.proofs.Recalled.{recall_by}
use Rattle.bf_output.specs.Output.{asks_file}
use Rattle.bf_output.specs.Shown.{shown_by}
use Rattle.bf_words.specs.declared.request.Request.{Request}
use Rattle.bf_journal_run.proofs.command.journal.Given.{Over}
use Rattle.bf_journal_run.proofs.command.journal.Goals as goal

-- the line of the words
abbrev line_in : (g : Over) → goal.Joined-request g → RequestLine
line_in g c = record { alloc = c.args.alloc; request = record { ref_ptr = (c.request-in-Ok-1.given, 0); now = c.in-Ok.request }; words = c.args.words }

-- what the call met, where the words ask for something
abbrev met_in : (g : Over) → goal.Joined-request g → Met
met_in g c =
    met c.args.words.now (met_source g.S.Source c.args.stream.now c.open_search-ready.new.stream)
    (met_shelf g.F.Shelf c.args.shelf.now c.open_search-ready.new.shelf) (met_tester (recall_by g.T.Tester) c.args.tester.now c.conclude.new.tester)
    (met_sink g.K.Sink c.args.out.now c.conclude.new.out)

abbrev disk_in : (g : Over) → goal.Joined-request g → DiskMet
disk_in g c = met_disk g.J.Disk c.args.disk.now c.conclude.new.disk

-- and where they are refused
abbrev met_refused : (g : Over) → goal.After-say_answer g → Met
met_refused g c =
    met c.args.words.now (met_source g.S.Source c.args.stream.now c.args.stream.now)
    (met_shelf g.F.Shelf c.args.shelf.now c.args.shelf.now) (met_tester (recall_by g.T.Tester) c.args.tester.now c.args.tester.now)
    (met_sink g.K.Sink c.args.out.now c.say_answer.new.out)

abbrev disk_refused : (g : Over) → goal.After-say_answer g → DiskMet
disk_refused g c = met_disk g.J.Disk c.args.disk.now c.args.disk.now

pub open_search-ready-requires : goal.open_search-ready-requires
open_search-ready-requires g c = record { asked = sym (run_asked c.args.words.now c.in-Ok.request c.in-Ok.ensures) }

pub conclude-requires-clause-run : goal.conclude-requires-clause-run
conclude-requires-clause-run g c = λ κs within. run_asked c.args.words.now c.in-Ok.request c.in-Ok.ensures

pub returns-in-Ok-clause-answers : goal.returns-in-Ok-clause-answers
returns-in-Ok-clause-answers g c =
    answered (met_in g c) (disk_in g c) (line_in g c) c.conclude.result refl c.in-Ok.ensures
    (run_asked c.args.words.now c.in-Ok.request c.in-Ok.ensures) c.open_search-ready.result c.open_search-ready.ensures.begins
    c.open_search-ready.ensures.read.failed c.open_search-ready.ensures.asks c.open_search-ready.ensures.file.failed c.conclude.ensures.own c.conclude.ensures.told

pub returns-in-Ok-clause-complete : goal.returns-in-Ok-clause-complete
returns-in-Ok-clause-complete g c =
    complete (to_journal (met_in g c) (disk_in g c)) (met_in g c) c.conclude.result (returns-in-Ok-clause-answers g c) c.conclude.ensures.write
    (λ place e. (c.conclude.ensures.test place e).rose)

pub returns-in-Ok-clause-read : goal.returns-in-Ok-clause-read
returns-in-Ok-clause-read g c =
    read_cause (to_journal (met_in g c) (disk_in g c)) (met_in g c) c.conclude.result (returns-in-Ok-clause-answers g c)

pub returns-in-Ok-clause-file : goal.returns-in-Ok-clause-file
returns-in-Ok-clause-file g c =
    shelf_cause (to_journal (met_in g c) (disk_in g c)) (met_in g c) c.conclude.result (returns-in-Ok-clause-answers g c)

pub returns-in-Ok-clause-test : goal.returns-in-Ok-clause-test
returns-in-Ok-clause-test g c =
    subst (λ b. HasTestCause b (met_tester (recall_by g.T.Tester) c.args.tester.now c.conclude.new.tester) c.conclude.result)
    (tests_run (met_in g c) (disk_in g c) (line_in g c) c.conclude.result refl c.in-Ok.ensures
    (run_asked c.args.words.now c.in-Ok.request c.in-Ok.ensures)) c.conclude.ensures.test

pub returns-in-Ok-clause-used : goal.returns-in-Ok-clause-used
returns-in-Ok-clause-used g c =
    used_for c.args.words.now c.in-Ok.request _ _ c.in-Ok.ensures (run_asked c.args.words.now c.in-Ok.request c.in-Ok.ensures) c.conclude.ensures.used

pub returns-in-Ok-clause-recalled : goal.returns-in-Ok-clause-recalled
returns-in-Ok-clause-recalled g c =
    subst (λ (r : Result Request ℕ). IsRecalledBy (disk_in g c) r c.args.words.now (g.S.Source.left c.args.stream.now) c.conclude.new.tester.answers
    c.conclude.new.tester.remembered) (sym c.in-Ok.ensures)
    (recalled (disk_in g c) (line_in g c) c.open_search-ready.result (g.S.Source.left c.args.stream.now) c.conclude.new.tester.answers
    c.conclude.new.tester.remembered c.conclude.ensures.recalled c.open_search-ready.ensures.history)

pub returns-in-Ok-clause-unread : goal.returns-in-Ok-clause-unread
returns-in-Ok-clause-unread g c = λ e.
    absurd (reads_always c.args.words.now c.in-Ok.request c.in-Ok.ensures (run_asked c.args.words.now c.in-Ok.request c.in-Ok.ensures) e)

pub returns-in-Ok-clause-unkept : goal.returns-in-Ok-clause-unkept
returns-in-Ok-clause-unkept g c = λ e.
    absurd (reads_always c.args.words.now c.in-Ok.request c.in-Ok.ensures (run_asked c.args.words.now c.in-Ok.request c.in-Ok.ensures) e)

pub returns-in-Ok-clause-unloaded : goal.returns-in-Ok-clause-unloaded
returns-in-Ok-clause-unloaded g c = λ e. c.open_search-ready.ensures.unloaded (ap asks_file (sym c.in-Ok.ensures) ∙ e)

pub returns-in-Err-clause-answers : goal.returns-in-Err-clause-answers
returns-in-Err-clause-answers g c =
    refused (met_refused g c) (disk_refused g c) c.in-Err.fault c.say_answer.result c.word_refusal.result c.in-Err.ensures refl
    c.word_refusal.ensures.tells c.word_refusal.ensures.whole c.word_refusal.ensures.memory c.say_answer.ensures.told

pub returns-in-Err-clause-complete : goal.returns-in-Err-clause-complete
returns-in-Err-clause-complete g c =
    complete (to_journal (met_refused g c) (disk_refused g c)) (met_refused g c) c.say_answer.result (returns-in-Err-clause-answers g c)
    c.say_answer.ensures.write (λ place e. absurd (c.say_answer.ensures.no_test place e))

pub returns-in-Err-clause-read : goal.returns-in-Err-clause-read
returns-in-Err-clause-read g c =
    read_cause (to_journal (met_refused g c) (disk_refused g c)) (met_refused g c) c.say_answer.result (returns-in-Err-clause-answers g c)

pub returns-in-Err-clause-file : goal.returns-in-Err-clause-file
returns-in-Err-clause-file g c =
    shelf_cause (to_journal (met_refused g c) (disk_refused g c)) (met_refused g c) c.say_answer.result (returns-in-Err-clause-answers g c)

pub returns-in-Err-clause-test : goal.returns-in-Err-clause-test
returns-in-Err-clause-test g c = λ place e. absurd (c.say_answer.ensures.no_test place e)

pub returns-in-Err-clause-disk : goal.returns-in-Err-clause-disk
returns-in-Err-clause-disk g c = λ e. absurd (c.say_answer.ensures.no_journal e)

pub returns-in-Err-clause-used : goal.returns-in-Err-clause-used
returns-in-Err-clause-used g c =
    refused_used (request_to_journal c.args.words.now) c.args.words.now _ _
    (ap (shown_by (recall_by g.T.Tester)) (sym (remembering_none c.args.tester.now c.requires.remembers)))

pub returns-in-Err-clause-recalled : goal.returns-in-Err-clause-recalled
returns-in-Err-clause-recalled g c =
    refused_recalled (disk_refused g c) (request_to_journal c.args.words.now) c.args.words.now _ _ c.args.tester.now.remembered c.requires.fresh

pub returns-in-Err-clause-unasked : goal.returns-in-Err-clause-unasked
returns-in-Err-clause-unasked g c = unasked_none _ _ c.requires.remembers

-- ---- the disk, with whatever status

pub returns-in-Ok-clause-held : goal.returns-in-Ok-clause-held
returns-in-Ok-clause-held g c =
    subst (λ (r : Result Request ℕ). IsHeldBy g.J.Disk c.args.disk.now c.conclude.new.disk r c.args.words.now (g.S.Source.left c.args.stream.now)
    (g.F.Shelf.files c.args.shelf.now) c.conclude.new.tester.answers) (sym c.in-Ok.ensures)
    (held_ready g.J.Disk c.args.disk.now c.conclude.new.disk (line_in g c) (g.F.Shelf.files c.args.shelf.now) (g.S.Source.left c.args.stream.now)
    c.open_search-ready.result c.conclude.new.tester.answers c.open_search-ready.ensures.begins c.open_search-ready.ensures.history c.conclude.ensures.held)

pub returns-in-Err-clause-held : goal.returns-in-Err-clause-held
returns-in-Err-clause-held g c =
    held_refused g.J.Disk c.args.disk.now (request_to_journal c.args.words.now) c.args.words.now (g.S.Source.left c.args.stream.now)
    (g.F.Shelf.files c.args.shelf.now) c.args.tester.now.answers

pub returns-in-Ok-clause-disk : goal.returns-in-Ok-clause-disk
returns-in-Ok-clause-disk g c = λ e.
    (asks_disk c.args.words.now c.in-Ok.request c.in-Ok.ensures (run_asked c.args.words.now c.in-Ok.request c.in-Ok.ensures), c.conclude.ensures.disk e)
