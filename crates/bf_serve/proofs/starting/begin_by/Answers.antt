use Rattle.std.proofs.Common.{Err, ap, ◌∙◌}
use Rattle.bf_answers.specs.declared.answer.Fault.{Fault}
use Rattle.bf_serve.proofs.Starts.{begun_from, begun_memory, begun_no_memory, begun_without}
use Rattle.bf_serve.proofs.starting.begin_by.Goals as goal

pub returns-in_err-file_fault-in-Err-Shelf-clause-step :
    goal.returns-in_err-file_fault-in-Err-Shelf-clause-step
returns-in_err-file_fault-in-Err-Shelf-clause-step g c =
    begun_memory (g.F.Shelf.files c.args.shelf.now) (g.F.Shelf.faults c.args.shelf.now)
    (g.F.Shelf.faults c.load_file.new.shelf) c.args.history.now c.args.line.words.now c.args.line.request.now c.from_residual.result
    c.from_residual.ensures.1

pub returns-in-Ok-clause-step : goal.returns-in-Ok-clause-step
returns-in-Ok-clause-step g c =
    begun_from (g.F.Shelf.files c.args.shelf.now) (g.F.Shelf.faults c.args.shelf.now)
    (g.F.Shelf.faults c.load_file.new.shelf) c.args.history.now c.args.line.words.now c.args.line.request.now c.in-Ok.file c.lent.result
    c.begin.result c.in-Ok.ensures.file c.lent.ensures c.begin.ensures.step

pub returns-in_ok-file_fault-in-Err-Shelf-clause-step :
    goal.returns-in_ok-file_fault-in-Err-Shelf-clause-step
returns-in_ok-file_fault-in-Err-Shelf-clause-step g c =
    let fails = c.in-Err-Shelf.is ∙ ap (λ (e : Fault). Err e) c.in-Err-Shelf.field-0-is in
    begun_without (g.F.Shelf.files c.args.shelf.now) (g.F.Shelf.faults c.args.shelf.now)
    (g.F.Shelf.faults c.load_file.new.shelf) c.args.history.now c.args.line.words.now c.args.line.request.now
    c.in_ok-file_fault-in-Err-Shelf.field-0 (c.load_file.ensures.asked fails) (c.load_file.ensures.cause.failed fails)
    c.in_ok-file_fault-in-Err-Shelf.ensures

pub returns-in-Err-Read : goal.returns-in-Err-Read
returns-in-Err-Read g c = record {
  step = begun_no_memory (g.F.Shelf.files c.args.shelf.now) (g.F.Shelf.faults c.args.shelf.now)
      (g.F.Shelf.faults c.load_file.new.shelf) c.args.history.now c.args.line.words.now c.args.line.request.now;
  len = tt;
  places = tt;
  ends = tt;
  files = c.load_file.ensures.same;
  faults = c.load_file.ensures.cause.later;
}
