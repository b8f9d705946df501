use Rattle.bf_serve_run.specs.declared.server.Server.{Server}
use Rattle.bf_serve_run.proofs.Replying.{on_ok, short_said}
use Rattle.bf_serve_run.proofs.server.ServerAnswers.answer.Goals as goal

pub returns-clause-reply : goal.returns-clause-reply
returns-clause-reply g c =
    let new : Server = record { session = c.answer.new.self } in
    on_ok c.answer.result
    (λ answers. short_said g.F.Shelf c.args.self.now new c.args.shelf.now c.answer.new.shelf c.args.line.now c.args.text.now c.answer.new.out
    c.requires.short c.requires.empty c.answer.ensures.files c.answer.ensures.faults answers)
    c.answer.ensures.answers
