use Rattle.std.proofs.Common.{[], false, None, sym, ◌∙◌}
use Rattle.bf_answers.specs.Devices.{Met, met_shelf, met_sink, met_source, met_untested}
use Rattle.bf_output.specs.Shown.{TesterShown}
use Rattle.bf_serve_run.proofs.Concluding.{complete_of, no_file_of, read_of}
use Rattle.bf_serve_run.proofs.command.serve.Given.{Over}
use Rattle.bf_serve_run.proofs.command.serve.Goals as goal

-- some tester
abbrev nothing_tested : TesterShown
nothing_tested = record { plan = None; command = []; is_lenient = false; answers = []; faults = 0; failed = None; is_split = false }

-- ---- a word at fault

abbrev met_refused : (g : Over) → goal.After-refuse g → TesterShown → Met
met_refused g c tested =
    met_untested c.args.words.now (met_source g.S.Source c.args.stream.now c.args.stream.now) (met_shelf g.F.Shelf c.args.shelf.now c.args.shelf.now) tested
    (met_sink g.K.Sink c.args.out.now c.refuse.new.out)

pub returns-in-Some-clause-answers : goal.returns-in-Some-clause-answers
returns-in-Some-clause-answers g c = λ tested.
    c.refuse.ensures.refuses (met_source g.S.Source c.args.stream.now c.args.stream.now) (met_shelf g.F.Shelf c.args.shelf.now c.args.shelf.now)
    c.args.words.now tested (sym c.wrong_word.ensures ∙ c.in-Some.is)

pub returns-in-Some-clause-complete : goal.returns-in-Some-clause-complete
returns-in-Some-clause-complete g c = λ tested.
    complete_of (met_refused g c tested) c.refuse.result (returns-in-Some-clause-answers g c tested) c.refuse.ensures.write c.refuse.ensures.no_test

pub returns-in-Some-clause-read : goal.returns-in-Some-clause-read
returns-in-Some-clause-read g c =
    read_of (met_refused g c nothing_tested) c.refuse.result (returns-in-Some-clause-answers g c nothing_tested)

pub returns-in-Some-clause-no_file : goal.returns-in-Some-clause-no_file
returns-in-Some-clause-no_file g c =
    no_file_of (met_refused g c nothing_tested) c.refuse.result (returns-in-Some-clause-answers g c nothing_tested)

-- ---- none

abbrev met_served : (g : Over) → goal.After-serve_stream g → TesterShown → Met
met_served g c tested =
    met_untested c.args.words.now (met_source g.S.Source c.args.stream.now c.serve_stream.new.stream)
    (met_shelf g.F.Shelf c.args.shelf.now c.serve_stream.new.shelf) tested (met_sink g.K.Sink c.args.out.now c.serve_stream.new.out)

pub returns-in-None-clause-answers : goal.returns-in-None-clause-answers
returns-in-None-clause-answers g c = λ tested. c.serve_stream.ensures.serves c.args.words.now tested (sym c.wrong_word.ensures ∙ c.in-None.is, c.limits_asked.ensures.limits)

pub returns-in-None-clause-complete : goal.returns-in-None-clause-complete
returns-in-None-clause-complete g c = λ tested.
    complete_of (met_served g c tested) c.serve_stream.result (returns-in-None-clause-answers g c tested) c.serve_stream.ensures.write
    c.serve_stream.ensures.no_test

pub returns-in-None-clause-read : goal.returns-in-None-clause-read
returns-in-None-clause-read g c =
    read_of (met_served g c nothing_tested) c.serve_stream.result (returns-in-None-clause-answers g c nothing_tested)

pub returns-in-None-clause-no_file : goal.returns-in-None-clause-no_file
returns-in-None-clause-no_file g c =
    no_file_of (met_served g c nothing_tested) c.serve_stream.result (returns-in-None-clause-answers g c nothing_tested)
