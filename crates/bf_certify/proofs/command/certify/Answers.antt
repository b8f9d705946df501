use Rattle.bf_answers.specs.Devices.{Met, met, met_shelf, met_sink, met_source, met_tester}
use Rattle.bf_answers.proofs.Answering.{read_cause, shelf_cause}
use Rattle.bf_answers.proofs.Complete.{complete}
use Rattle.bf_answers.proofs.Saying.{caused_no_write, no_journal_said, refused_said, said, test_said}
use Rattle.bf_certify.specs.Certifying.{to_certify}
use Rattle.bf_commands.specs.Orders.{request_to_certify}
use Rattle.bf_output.specs.Output.{tests}
use Rattle.bf_certify.proofs.command.certify.Given.{Over}
use Rattle.bf_certify.proofs.command.certify.Goals as goal

-- what the call met
abbrev met_in : (g : Over) → goal.After-say_tested g → Met
met_in g c =
    met c.args.words.now (met_source g.S.Source c.args.stream.now c.answer-answer.new.stream)
    (met_shelf g.F.Shelf c.args.shelf.now c.answer-answer.new.shelf)
    (met_tester g.T.Tester c.args.tester.now c.answer-answer.new.tester)
    (met_sink g.K.Sink c.args.out.now c.say_tested.new.out)

pub say_tested-requires : goal.say_tested-requires
say_tested-requires g c = record {
  whole = caused_no_write (tests (request_to_certify c.args.words.now)) (met_tester g.T.Tester c.args.tester.now c.answer-answer.new.tester)
      c.answer-answer.result c.answer-answer.ensures.cause;
}

pub returns-clause-answers : goal.returns-clause-answers
returns-clause-answers g c =
    let met = met_in g c in
    let answer = c.answer-answer in
    said (to_certify met) met c.say_tested.result answer.result answer.ensures.tells answer.ensures.cause answer.ensures.refused
    answer.ensures.fault (λ e. (answer.ensures.reads e, answer.ensures.read.failed e)) (λ e. (answer.ensures.loads e, answer.ensures.file.failed e))
    c.say_tested.ensures.told

pub returns-clause-test : goal.returns-clause-test
returns-clause-test g c =
    let met = met_in g c in
    test_said (tests (request_to_certify c.args.words.now)) met.tester met.sink c.say_tested.result c.answer-answer.result
    c.answer-answer.ensures.cause c.say_tested.ensures.told

pub returns-clause-untested : goal.returns-clause-untested
returns-clause-untested g c =
    let met = met_in g c in
    refused_said met.tester met.sink c.say_tested.result c.answer-answer.result c.answer-answer.ensures.refused
    c.answer-answer.ensures.fault c.say_tested.ensures.told

pub returns-clause-complete : goal.returns-clause-complete
returns-clause-complete g c =
    let met = met_in g c in
    complete (to_certify met) met c.say_tested.result (returns-clause-answers g c) c.say_tested.ensures.write
    (λ place e. (returns-clause-test g c place e).rose)

pub returns-clause-read : goal.returns-clause-read
returns-clause-read g c =
    let met = met_in g c in
    read_cause (to_certify met) met c.say_tested.result (returns-clause-answers g c)

pub returns-clause-file : goal.returns-clause-file
returns-clause-file g c =
    let met = met_in g c in
    shelf_cause (to_certify met) met c.say_tested.result (returns-clause-answers g c)

pub returns-clause-no_journal : goal.returns-clause-no_journal
returns-clause-no_journal g c =
    let met = met_in g c in
    no_journal_said (tests (request_to_certify c.args.words.now)) met.tester met.sink c.say_tested.result c.answer-answer.result
    c.answer-answer.ensures.cause c.say_tested.ensures.told
