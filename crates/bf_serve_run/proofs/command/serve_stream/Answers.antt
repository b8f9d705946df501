use Rattle.std.proofs.Common.{Err, inl, refl, ap, arith}
use Rattle.bf_answers.specs.Devices.{Met, met_shelf, met_sink, met_source, met_untested}
use Rattle.bf_answers.proofs.Concluding.{said_answer}
use Rattle.bf_history.specs.declared.fault.ImportFault.{ImportFault}
use Rattle.bf_serve_run.specs.Command.{to_serve}
use Rattle.bf_serve_run.proofs.Concluding.{served_answer, serves_by, tells_refusal}
use Rattle.bf_serve_run.proofs.Replying.{rose_in}
use Rattle.bf_serve_run.proofs.command.serve_stream.Goals as goal

pub returns-in-Ok-clause-serves : goal.returns-in-Ok-clause-serves
returns-in-Ok-clause-serves g c = λ words tested asked.
    let call = c.serve_requests-served in
    let met : Met =
    met_untested words (met_source g.S.Source c.args.stream.now call.new.source) (met_shelf g.F.Shelf c.args.shelf.now call.new.shelf) tested
    (met_sink g.K.Sink c.args.out.now call.new.sink) in
    served_answer met c.in-Ok.history c.in-Ok.held (g.S.Source.left c.import_with_rest.new.source) call.result c.status_of.result asked.0
    (rw asked.1 at c.in-Ok.ensures.history) (rw asked.1 at c.in-Ok.ensures.rest)
    call.ensures.all call.ensures.some call.ensures.front
    (λ e. rose_in (g.S.Source.faults c.import_with_rest.new.source) (g.S.Source.faults c.args.stream.now) (g.S.Source.faults call.new.source)
    (g.S.Source.faults call.new.source) c.in-Ok.ensures.cause.later (omega arith) (call.ensures.source.failed e))
    c.status_of.ensures

pub returns-in-Err-clause-serves : goal.returns-in-Err-clause-serves
returns-in-Err-clause-serves g c = λ words tested asked.
    let told = c.refusal-answer in
    let met : Met =
    met_untested words (met_source g.S.Source c.args.stream.now c.import_with_rest.new.source) (met_shelf g.F.Shelf c.args.shelf.now c.args.shelf.now)
    tested (met_sink g.K.Sink c.args.out.now c.say_answer.new.out) in
    inl (said_answer (to_serve met) met c.say_answer.result told.result refl
    (tells_refusal words met.shelf met.source.left c.in-Err.fault told.result asked.0 (rw asked.1 at c.in-Err.ensures.history)
    c.in-Err.ensures.known told.ensures.whole told.ensures.tells)
    told.ensures.whole
    (λ e. (serves_by words asked.0, c.in-Err.ensures.cause.failed (ap (λ (f : ImportFault). Err f) (told.ensures.read e))))
    (λ e. absurd (told.ensures.no_shelf e)) c.say_answer.ensures.told)
