use Rattle.bf_serve_run.proofs.Replying.{long_said, on_ok}
use Rattle.bf_serve_run.proofs.server.ServerAnswers.answer_long.Goals as goal

pub returns-clause-reply : goal.returns-clause-reply
returns-clause-reply g c =
    on_ok c.put_refusal.result
    (λ put. long_said g.F.Shelf c.args.self.now c.args._shelf.now c.args.text.now c.put_refusal.new.out c.requires.empty put)
    c.put_refusal.ensures
