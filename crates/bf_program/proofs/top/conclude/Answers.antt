use Rattle.std.proofs.Common.{◌≡◌, inl, refl}
use Rattle.bf_output.specs.Output.{is_run}
use Rattle.bf_answers.specs.declared.started.Ready.TheVariants.{Told, Search}
use Rattle.bf_answers.proofs.Concluding.{concluded_answer, concluded_search, concludes, concludes_fault, if_ok, sound_answer, sound_search, sound_started, whole_own}
use Rattle.bf_searches.proofs.Untested.{search_began}
use Rattle.bf_answers.specs.Devices.{met_sink, met_tester}
use Rattle.bf_answers.specs.Ready.{Tells}
use Rattle.bf_program.proofs.top.conclude.Goals as goal

pub returns-in-Ok-Search-clause-told : goal.returns-in-Ok-Search-clause-told
returns-in-Ok-Search-clause-told g c =
    let tester = met_tester g.T.Tester c.args.tester.now c.search.new.tester in
    concludes (is_run c.args.line.request.now.verb) (Tells c.args.line.request.now c.args.line.words.now tester.after) tester c.args.ready
    c.in-Ok-Search.field-0 (Search c.in-Ok-Search.started) (met_sink g.K.Sink c.args.out.now c.search.new.out) c.search.result
    c.in-Ok-Search.is c.in-Ok-Search.field-0-is
    (concluded_search c.args.line.request.now c.args.line.words.now tester c.in-Ok-Search.started _ _ c.search.result
    (sound_search c.args.line.request.now c.args.ready c.in-Ok-Search.field-0 c.in-Ok-Search.started c.in-Ok-Search.is c.in-Ok-Search.field-0-is
    c.requires.sound)
    c.search.ensures.told)

pub returns-in-Ok-Search-clause-untested : goal.returns-in-Ok-Search-clause-untested
returns-in-Ok-Search-clause-untested g c = λ refused.
    let line = c.args.line in
    let started = c.in-Ok-Search.started in
    let tester = met_tester g.T.Tester c.args.tester.now c.search.new.tester in
    absurd {A = tester.after ≡ tester.before} (search_began line.request.now.verb line.request.now line.words.now (is_run line.request.now.verb)
    tester started _ _ c.search.result
    (sound_started line.request.now c.args.ready c.in-Ok-Search.field-0 started c.in-Ok-Search.is c.in-Ok-Search.field-0-is c.requires.sound)
    c.search.ensures.told refused)

pub say_answer-requires : goal.say_answer-requires
say_answer-requires g c = record {
  whole =
      sound_answer c.args.line.request.now c.args.ready c.in-Ok-Told.field-0 c.in-Ok-Told.answer c.in-Ok-Told.is c.in-Ok-Told.field-0-is
      c.requires.sound;
}

pub returns-in-Ok-Told-clause-told : goal.returns-in-Ok-Told-clause-told
returns-in-Ok-Told-clause-told g c =
    let tester = met_tester g.T.Tester c.args.tester.now c.args.tester.now in
    let sound = sound_answer c.args.line.request.now c.args.ready c.in-Ok-Told.field-0 c.in-Ok-Told.answer c.in-Ok-Told.is c.in-Ok-Told.field-0-is
    c.requires.sound in
    concludes (is_run c.args.line.request.now.verb) (Tells c.args.line.request.now c.args.line.words.now tester.after) tester c.args.ready
    c.in-Ok-Told.field-0 (Told c.in-Ok-Told.answer) (met_sink g.K.Sink c.args.out.now c.say_answer.new.out) c.say_answer.result
    c.in-Ok-Told.is c.in-Ok-Told.field-0-is
    (concluded_answer (is_run c.args.line.request.now.verb) tester c.in-Ok-Told.answer _ _ c.say_answer.result refl sound c.say_answer.ensures.told)

pub returns-in-Ok-Told-clause-own : goal.returns-in-Ok-Told-clause-own
returns-in-Ok-Told-clause-own g c =
    let sound = sound_answer c.args.line.request.now c.args.ready c.in-Ok-Told.field-0 c.in-Ok-Told.answer c.in-Ok-Told.is c.in-Ok-Told.field-0-is
    c.requires.sound in
    if_ok _ c.args.ready (whole_own _ _ _ c.in-Ok-Told.answer.status c.say_answer.result sound c.say_answer.ensures.told)

pub returns-in-Ok-Told-clause-test : goal.returns-in-Ok-Told-clause-test
returns-in-Ok-Told-clause-test g c = λ place e. absurd (c.say_answer.ensures.no_test place e)

pub returns-in-Ok-Told-clause-used : goal.returns-in-Ok-Told-clause-used
returns-in-Ok-Told-clause-used g c = inl refl

pub returns-in-Err-clause-told : goal.returns-in-Err-clause-told
returns-in-Err-clause-told g c =
    let tester = met_tester g.T.Tester c.args.tester.now c.args.tester.now in
    concludes_fault (is_run c.args.line.request.now.verb) (Tells c.args.line.request.now c.args.line.words.now tester.after) tester c.args.ready
    c.in-Err.fault (met_sink g.K.Sink c.args.out.now c.say_answer-in-Err.new.out) c.say_answer-in-Err.result c.in-Err.is refl
    c.say_answer-in-Err.ensures.told

pub returns-in-Err-clause-test : goal.returns-in-Err-clause-test
returns-in-Err-clause-test g c = λ place e. absurd (c.say_answer-in-Err.ensures.no_test place e)

pub returns-in-Err-clause-used : goal.returns-in-Err-clause-used
returns-in-Err-clause-used g c = inl refl
