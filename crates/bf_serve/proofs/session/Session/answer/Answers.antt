use Rattle.std.proofs.Common.{Ok, refl, sym, ap, ◌∙◌, arith}
use Rattle.bf_protocol.specs.declared.request.Asked.{Asked}
use Rattle.bf_serve.proofs.Answering.{answered_refused, answered_search}
use Rattle.bf_serve.proofs.Answering.{answered_ok}
use Rattle.bf_serve.proofs.Texts.{on_ok}
use Rattle.bf_serve.proofs.session.Session.answer.Goals as goal

pub returns-in-Search-clause-answers : goal.returns-in-Search-clause-answers
returns-in-Search-clause-answers g c =
    on_ok c.search.result
    (λ h. answered_search (g.F.Shelf.files c.args.shelf.now) (g.F.Shelf.faults c.args.shelf.now) (g.F.Shelf.faults c.search.new.shelf)
    c.args.line.now c.as_slice-words.result.now c.args.self.now c.search.new.self c.args.out.now c.search.new.out
    (c.as_slice-words.ensures.value ∙ c.in_ok-words.ensures)
    (sym c.asked_by.ensures.asked ∙ c.in-Ok.is ∙ ap (λ (a : Asked). Ok a) c.in-Search.is) h)
    c.search.ensures.served

pub returns-in-Ok : goal.returns-in-Ok
returns-in-Ok g c = record {
  answers = answered_ok (g.F.Shelf.files c.args.shelf.now) (g.F.Shelf.faults c.args.shelf.now) (g.F.Shelf.faults c.args.shelf.now)
      c.args.line.now c.as_slice-words.result.now (Ok c.in-Ok.asked) c.args.self.now c.reply.new.self c.args.out.now c.reply.new.out c.reply.result
      (c.as_slice-words.ensures.value ∙ c.in_ok-words.ensures) (sym c.asked_by.ensures.asked ∙ c.in-Ok.is)
      (λ file. c.reply.ensures file c.in_default.not-Search);
  files = refl;
  faults = omega arith;
}

pub returns-clause-answers : goal.returns-clause-answers
returns-clause-answers g c =
    on_ok c.put_refusal.result
    (λ h. answered_refused (g.F.Shelf.files c.args.shelf.now) (g.F.Shelf.faults c.args.shelf.now) (g.F.Shelf.faults c.args.shelf.now)
    c.args.line.now c.as_slice-words.result.now c.in-Err.refusal c.args.self.now c.args.out.now c.put_refusal.new.out
    (c.as_slice-words.ensures.value ∙ c.in_ok-words.ensures) (sym c.asked_by.ensures.asked ∙ c.in-Err.is) c.requires h)
    c.put_refusal.ensures
