use Rattle.std.proofs.Common.{[], false, None, refl}
use Rattle.bf_output.specs.Shown.{TesterShown}
use Rattle.bf_answers.specs.Devices.{Met, met_shelf, met_sink, met_source, met_untested}
use Rattle.bf_answers.proofs.Answering.{read_cause, shelf_cause}
use Rattle.bf_answers.proofs.Complete.{complete}
use Rattle.bf_answers.proofs.Concluding.{said_answer}
use Rattle.bf_many_run.specs.Command.{to_many}
use Rattle.bf_many_run.proofs.command.many.Given.{Over}
use Rattle.bf_many_run.proofs.command.many.Goals as goal

-- what the call met, where a tester shows this
abbrev met_in : (g : Over) → goal.After-say_answer g → TesterShown → Met
met_in g c tested =
    met_untested c.args.words.now (met_source g.S.Source c.args.stream.now c.answer-answer.new.stream)
    (met_shelf g.F.Shelf c.args.shelf.now c.answer-answer.new.shelf) tested (met_sink g.K.Sink c.args.out.now c.say_answer.new.out)

-- some tester
abbrev nothing_tested : TesterShown
nothing_tested = record { plan = None; command = []; is_lenient = false; answers = []; faults = 0; failed = None; is_split = false }

pub returns-clause-answers : goal.returns-clause-answers
returns-clause-answers g c = λ tested.
    let met = met_in g c tested in
    said_answer (to_many met) met c.say_answer.result c.answer-answer.result refl c.answer-answer.ensures.tells c.answer-answer.ensures.whole
    (λ e. (c.answer-answer.ensures.reads e, c.answer-answer.ensures.cause.failed e))
    (λ e. (c.answer-answer.ensures.loads e, c.answer-answer.ensures.file.failed e)) c.say_answer.ensures.told

pub returns-clause-complete : goal.returns-clause-complete
returns-clause-complete g c = λ tested.
    let met = met_in g c tested in
    complete (to_many met) met c.say_answer.result (returns-clause-answers g c tested) c.say_answer.ensures.write
    (λ place e. absurd (c.say_answer.ensures.no_test place e))

pub returns-clause-read : goal.returns-clause-read
returns-clause-read g c =
    let met = met_in g c nothing_tested in
    read_cause (to_many met) met c.say_answer.result (returns-clause-answers g c nothing_tested)

pub returns-clause-file : goal.returns-clause-file
returns-clause-file g c =
    let met = met_in g c nothing_tested in
    shelf_cause (to_many met) met c.say_answer.result (returns-clause-answers g c nothing_tested)
