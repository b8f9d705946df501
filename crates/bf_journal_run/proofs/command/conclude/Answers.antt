use Rattle.std.proofs.Common.{◌∙◌, Ok, Err, Result, true, ap, inl, refl, subst, sym}
use Rattle.bf_answers.proofs.Concluding.{concluded_answer, concludes, concludes_fault, if_ok, sound_answer, whole_own}
use Rattle.bf_answers.specs.declared.answer.Fault.{Fault}
use Rattle.bf_answers.specs.declared.started.Ready.{Ready}
use Rattle.bf_answers.specs.declared.started.Ready.TheVariants.{Told, Search}
use Rattle.bf_answers.specs.Devices.{met_sink, met_tester}
use Rattle.bf_journal_run.specs.Held.{IsHeldReady}
use Rattle.bf_journal_run.specs.Journalling.{IsRecalledReady, TellsReady}
use Rattle.bf_journal_run.proofs.Concluding.{unopened_only, untouched_only}
use Rattle.bf_journal_run.specs.Legs.{met_disk}
use Rattle.bf_journal_run.proofs.Output.{remembering_none, said_no_disk, unasked, unasked_none, untested_concluded}
use Rattle.bf_journal_run.proofs.Recalled.{recall_by}
use Rattle.bf_output.specs.Shown.{shown_by}
use Rattle.bf_journal_run.proofs.command.conclude.Goals as goal

pub returns-in-Ok-Search-clause-told : goal.returns-in-Ok-Search-clause-told
returns-in-Ok-Search-clause-told g c =
    let tester = met_tester (recall_by g.T.Tester) c.args.tester.now c.search-status.new.tester in
    let disk = met_disk g.J.Disk c.args.disk.now c.search-status.new.disk in
    concludes true (TellsReady disk c.args.line.request.now c.args.line.words.now tester.after) tester c.args.ready c.in-Ok-Search.field-0
    (Search c.in-Ok-Search.started) (met_sink g.K.Sink c.args.out.now c.search-status.new.out) c.search-status.result c.in-Ok-Search.is
    c.in-Ok-Search.field-0-is c.search-status.ensures.told

pub returns-in-Ok-Search-clause-recalled : goal.returns-in-Ok-Search-clause-recalled
returns-in-Ok-Search-clause-recalled g c =
    subst (λ (r : Result Ready Fault). IsRecalledReady (met_disk g.J.Disk c.args.disk.now c.search-status.new.disk) c.args.line r
    c.search-status.new.tester.answers c.search-status.new.tester.remembered)
    (sym (c.in-Ok-Search.is ∙ ap (λ (r : Ready). Ok r) c.in-Ok-Search.field-0-is)) c.search-status.ensures.recalled

pub returns-in-Ok-Search-clause-unasked : goal.returns-in-Ok-Search-clause-unasked
returns-in-Ok-Search-clause-unasked g c = unasked _ c.search-status.new.tester.answers _ c.inner-below.ensures.kept.passed_on

pub returns-in-Ok-Search-clause-untested : goal.returns-in-Ok-Search-clause-untested
returns-in-Ok-Search-clause-untested g c = untested_concluded _ _ _ _ c.search-status.result c.search-status.ensures.told

pub returns-in-Ok-Search-clause-unopened : goal.returns-in-Ok-Search-clause-unopened
returns-in-Ok-Search-clause-unopened g c = λ before. unopened_only c.search-status.result _ _ c.search-status.ensures.refused before

pub returns-in-Ok-Search-clause-untouched : goal.returns-in-Ok-Search-clause-untouched
returns-in-Ok-Search-clause-untouched g c = λ kept e. untouched_only c.search-status.result _ kept c.search-status.ensures.refused e

pub say_answer-requires : goal.say_answer-requires
say_answer-requires g c = record {
  whole =
      sound_answer c.args.line.request.now c.args.ready c.in-Ok-Told.field-0 c.in-Ok-Told.answer c.in-Ok-Told.is c.in-Ok-Told.field-0-is
      c.requires.sound;
}

pub returns-in-Ok-Told-clause-told : goal.returns-in-Ok-Told-clause-told
returns-in-Ok-Told-clause-told g c =
    let tester = met_tester (recall_by g.T.Tester) c.args.tester.now c.args.tester.now in
    let disk = met_disk g.J.Disk c.args.disk.now c.args.disk.now in
    let sound = sound_answer c.args.line.request.now c.args.ready c.in-Ok-Told.field-0 c.in-Ok-Told.answer c.in-Ok-Told.is c.in-Ok-Told.field-0-is
    c.requires.sound in
    concludes true (TellsReady disk c.args.line.request.now c.args.line.words.now tester.after) tester c.args.ready c.in-Ok-Told.field-0
    (Told c.in-Ok-Told.answer) (met_sink g.K.Sink c.args.out.now c.say_answer.new.out) c.say_answer.result c.in-Ok-Told.is c.in-Ok-Told.field-0-is
    (concluded_answer true tester c.in-Ok-Told.answer _ _ c.say_answer.result refl sound c.say_answer.ensures.told)

pub returns-in-Ok-Told-clause-own : goal.returns-in-Ok-Told-clause-own
returns-in-Ok-Told-clause-own g c =
    let sound = sound_answer c.args.line.request.now c.args.ready c.in-Ok-Told.field-0 c.in-Ok-Told.answer c.in-Ok-Told.is c.in-Ok-Told.field-0-is
    c.requires.sound in
    if_ok _ c.args.ready (whole_own _ _ _ c.in-Ok-Told.answer.status c.say_answer.result sound c.say_answer.ensures.told)

pub returns-in-Ok-Told-clause-test : goal.returns-in-Ok-Told-clause-test
returns-in-Ok-Told-clause-test g c = λ place e. absurd (c.say_answer.ensures.no_test place e)

pub returns-in-Ok-Told-clause-disk : goal.returns-in-Ok-Told-clause-disk
returns-in-Ok-Told-clause-disk g c = λ e.
    let sound = sound_answer c.args.line.request.now c.args.ready c.in-Ok-Told.field-0 c.in-Ok-Told.answer c.in-Ok-Told.is c.in-Ok-Told.field-0-is
    c.requires.sound in
    absurd (said_no_disk (met_sink g.K.Sink c.args.out.now c.say_answer.new.out) c.say_answer.result (Ok c.in-Ok-Told.answer) sound c.say_answer.ensures.told e)

pub returns-in-Ok-Told-clause-used : goal.returns-in-Ok-Told-clause-used
returns-in-Ok-Told-clause-used g c = inl (ap (shown_by (recall_by g.T.Tester)) (sym (remembering_none c.args.tester.now c.requires.remembers)))

pub returns-in-Ok-Told-clause-recalled : goal.returns-in-Ok-Told-clause-recalled
returns-in-Ok-Told-clause-recalled g c =
    subst (λ (r : Result Ready Fault). IsRecalledReady (met_disk g.J.Disk c.args.disk.now c.args.disk.now) c.args.line r
    c.args.tester.now.answers c.args.tester.now.remembered)
    (sym (c.in-Ok-Told.is ∙ ap (λ (r : Ready). Ok r) c.in-Ok-Told.field-0-is)) c.requires.fresh

pub returns-in-Ok-Told-clause-unasked : goal.returns-in-Ok-Told-clause-unasked
returns-in-Ok-Told-clause-unasked g c = unasked_none _ _ c.requires.remembers

pub returns-in-Err-clause-told : goal.returns-in-Err-clause-told
returns-in-Err-clause-told g c =
    let tester = met_tester (recall_by g.T.Tester) c.args.tester.now c.args.tester.now in
    let disk = met_disk g.J.Disk c.args.disk.now c.args.disk.now in
    concludes_fault true (TellsReady disk c.args.line.request.now c.args.line.words.now tester.after) tester c.args.ready c.in-Err.fault
    (met_sink g.K.Sink c.args.out.now c.say_answer-in-Err.new.out) c.say_answer-in-Err.result c.in-Err.is refl c.say_answer-in-Err.ensures.told

pub returns-in-Err-clause-test : goal.returns-in-Err-clause-test
returns-in-Err-clause-test g c = λ place e. absurd (c.say_answer-in-Err.ensures.no_test place e)

pub returns-in-Err-clause-disk : goal.returns-in-Err-clause-disk
returns-in-Err-clause-disk g c = λ e.
    absurd (said_no_disk (met_sink g.K.Sink c.args.out.now c.say_answer-in-Err.new.out) c.say_answer-in-Err.result (Err c.in-Err.fault) tt
    c.say_answer-in-Err.ensures.told e)

pub returns-in-Err-clause-used : goal.returns-in-Err-clause-used
returns-in-Err-clause-used g c = inl (ap (shown_by (recall_by g.T.Tester)) (sym (remembering_none c.args.tester.now c.requires.remembers)))

pub returns-in-Err-clause-recalled : goal.returns-in-Err-clause-recalled
returns-in-Err-clause-recalled g c =
    subst (λ (r : Result Ready Fault). IsRecalledReady (met_disk g.J.Disk c.args.disk.now c.args.disk.now) c.args.line r
    c.args.tester.now.answers c.args.tester.now.remembered)
    (sym c.in-Err.is) c.requires.fresh

pub returns-in-Err-clause-unasked : goal.returns-in-Err-clause-unasked
returns-in-Err-clause-unasked g c = unasked_none _ _ c.requires.remembers

pub returns-in-Ok-Search-clause-held : goal.returns-in-Ok-Search-clause-held
returns-in-Ok-Search-clause-held g c =
    subst (λ (r : Result Ready Fault). IsHeldReady g.J.Disk c.args.disk.now c.search-status.new.disk c.args.line r c.search-status.new.tester.answers)
    (sym (c.in-Ok-Search.is ∙ ap (λ (r : Ready). Ok r) c.in-Ok-Search.field-0-is)) c.search-status.ensures.held

pub returns-in-Ok-Told-clause-held : goal.returns-in-Ok-Told-clause-held
returns-in-Ok-Told-clause-held g c =
    subst (λ (r : Result Ready Fault). IsHeldReady g.J.Disk c.args.disk.now c.args.disk.now c.args.line r c.args.tester.now.answers)
    (sym (c.in-Ok-Told.is ∙ ap (λ (r : Ready). Ok r) c.in-Ok-Told.field-0-is)) refl

pub returns-in-Err-clause-held : goal.returns-in-Err-clause-held
returns-in-Err-clause-held g c =
    subst (λ (r : Result Ready Fault). IsHeldReady g.J.Disk c.args.disk.now c.args.disk.now c.args.line r c.args.tester.now.answers)
    (sym c.in-Err.is) refl
