use Rattle.std.proofs.Common.{ℕ, List, Result, Ok, Err, OnErr, subst, sym, arith}
use Rattle.bf_io.specs.Told.{Appends, AppendsFront}
use Rattle.bf_lines.specs.Lines.{told}
use Rattle.bf_lines.specs.Serving.{IsBefore, IsReply, IsServed, ServesFront}
use Rattle.bf_lines.proofs.Finding.{err_as}
use Rattle.bf_lines.proofs.Served.{ends_told, front_served, front_written, served_all, served_here, served_more, served_some}
use Rattle.bf_lines.proofs.loops.serve_lines.Goals as goal

pub requests-init : goal.requests-init
requests-init g c = record {
  served = subst (λ (h : List ℕ). IsServed g.A.Answers.says (told c.args.held (g.S.Source.left c.args.source.now)) (told h (g.S.Source.left c.args.source.now))
      (c.args.answers.now, c.args.beside.now) (c.args.answers.now, c.args.beside.now) (g.K.Sink.held c.args.sink.now) (g.K.Sink.held c.args.sink.now)) (sym c.in_ok-lines.ensures)
      (served_here g.A.Answers.says (told c.args.held (g.S.Source.left c.args.source.now)) (c.args.answers.now, c.args.beside.now) (g.K.Sink.held c.args.sink.now));
  ready = c.requires;
  read = omega arith;
  wrote = omega arith;
  beside = omega arith;
}

pub returns-in_err-lines-clause-front : goal.returns-in_err-lines-clause-front
returns-in_err-lines-clause-front g c =
    err_as c.from_residual.result (ServesFront g.A.Answers.says (IsBefore g.A.Answers.faults c.args.beside.now) (told c.args.held (g.S.Source.left c.args.source.now)) (c.args.answers.now, c.args.beside.now) (g.K.Sink.held c.args.sink.now) (g.K.Sink.held c.args.sink.now))
    (front_served g.A.Answers.says (IsBefore g.A.Answers.faults c.args.beside.now) (told c.args.held (g.S.Source.left c.args.source.now)) (told c.args.held (g.S.Source.left c.args.source.now)) (c.args.answers.now, c.args.beside.now) (c.args.answers.now, c.args.beside.now) (g.K.Sink.held c.args.sink.now) (g.K.Sink.held c.args.sink.now)
    (omega arith) (served_here g.A.Answers.says (told c.args.held (g.S.Source.left c.args.source.now)) (c.args.answers.now, c.args.beside.now) (g.K.Sink.held c.args.sink.now)))

pub returns-in_err-next_line-clause-read : goal.returns-in_err-next_line-clause-read
returns-in_err-next_line-clause-read g c = λ _. served_some g.A.Answers.says (told c.args.held (g.S.Source.left c.args.source.now)) (told c.requests.lines (g.S.Source.left c.requests.source)) (c.args.answers.now, c.args.beside.now) (c.requests.answers, c.requests.beside) (g.K.Sink.held c.args.sink.now) (g.K.Sink.held c.requests.sink) c.requests.invariant.served

pub returns-in_err-next_line-clause-front : goal.returns-in_err-next_line-clause-front
returns-in_err-next_line-clause-front g c =
    err_as c.from_residual-in_err-next_line.result (ServesFront g.A.Answers.says (IsBefore g.A.Answers.faults c.requests.beside) (told c.args.held (g.S.Source.left c.args.source.now)) (c.args.answers.now, c.args.beside.now) (g.K.Sink.held c.args.sink.now) (g.K.Sink.held c.requests.sink))
    (front_served g.A.Answers.says (IsBefore g.A.Answers.faults c.requests.beside) (told c.args.held (g.S.Source.left c.args.source.now)) (told c.requests.lines (g.S.Source.left c.requests.source)) (c.args.answers.now, c.args.beside.now) (c.requests.answers, c.requests.beside) (g.K.Sink.held c.args.sink.now) (g.K.Sink.held c.requests.sink) (omega arith) c.requests.invariant.served)

pub returns-in-None-clause-served : goal.returns-in-None-clause-served
returns-in-None-clause-served g c =
    served_all g.A.Answers.says (told c.args.held (g.S.Source.left c.args.source.now)) (told c.requests.lines (g.S.Source.left c.requests.source)) (told c.next_line.new.self (g.S.Source.left c.next_line.new.source)) c.next_line.new.line (c.args.answers.now, c.args.beside.now)
    (c.requests.answers, c.requests.beside) (g.K.Sink.held c.args.sink.now) (g.K.Sink.held c.requests.sink) c.requests.invariant.served (rw c.in-None.is at c.in_ok-next_line.ensures.next)

pub returns-in-None-clause-ended : goal.returns-in-None-clause-ended
returns-in-None-clause-ended g c =
    ends_told c.next_line.new.self (told c.requests.lines (g.S.Source.left c.requests.source)) (g.S.Source.left c.next_line.new.source) c.next_line.new.line (rw c.in-None.is at c.in_ok-next_line.ensures.next)

pub returns-in_err-ask-in-Some-clause-front : goal.returns-in_err-ask-in-Some-clause-front
returns-in_err-ask-in-Some-clause-front g c =
    err_as c.from_residual-in_err-ask-in-Some.result (ServesFront g.A.Answers.says (IsBefore g.A.Answers.faults c.ask.new.beside) (told c.args.held (g.S.Source.left c.args.source.now)) (c.args.answers.now, c.args.beside.now) (g.K.Sink.held c.args.sink.now) (g.K.Sink.held c.requests.sink))
    (front_served g.A.Answers.says (IsBefore g.A.Answers.faults c.ask.new.beside) (told c.args.held (g.S.Source.left c.args.source.now)) (told c.requests.lines (g.S.Source.left c.requests.source)) (c.args.answers.now, c.args.beside.now) (c.requests.answers, c.requests.beside) (g.K.Sink.held c.args.sink.now) (g.K.Sink.held c.requests.sink) c.in_err-ask-in-Some.ensures.later c.requests.invariant.served)

pub returns-in_err-send-in-Some-clause-front : goal.returns-in_err-send-in-Some-clause-front
returns-in_err-send-in-Some-clause-front g c =
    err_as c.from_residual-in_err-send-in-Some.result (ServesFront g.A.Answers.says (IsBefore g.A.Answers.faults c.ask.new.beside) (told c.args.held (g.S.Source.left c.args.source.now)) (c.args.answers.now, c.args.beside.now) (g.K.Sink.held c.args.sink.now) (g.K.Sink.held c.send.new.sink))
    (front_written g.A.Answers.says (IsBefore g.A.Answers.faults c.ask.new.beside) (told c.args.held (g.S.Source.left c.args.source.now)) (told c.requests.lines (g.S.Source.left c.requests.source)) (told c.next_line.new.self (g.S.Source.left c.next_line.new.source)) c.next_line.new.line c.in-Some.kind
    (c.args.answers.now, c.args.beside.now) (c.requests.answers, c.requests.beside) (c.ask.new.answers, c.ask.new.beside) (g.K.Sink.held c.args.sink.now) (g.K.Sink.held c.requests.sink) (g.K.Sink.held c.send.new.sink) c.ask.new.text
    (omega arith) c.requests.invariant.served (rw c.in-Some.is at c.in_ok-next_line.ensures.next)
    (subst (λ (l : List ℕ). IsReply g.A.Answers.says (c.requests.answers, c.requests.beside) (c.ask.new.answers, c.ask.new.beside) l c.in-Some.kind c.ask.new.text) c.as_slice-request.ensures
    c.in_ok-ask-in-Some.ensures.reply)
    (subst (λ (l : List ℕ). AppendsFront (g.K.Sink.held c.requests.sink) (g.K.Sink.held c.send.new.sink) l) c.as_slice-reply.ensures c.in_err-send-in-Some.ensures.front))

pub requests-preserved : goal.requests-preserved
requests-preserved g c = record {
  served = served_more g.A.Answers.says (told c.args.held (g.S.Source.left c.args.source.now)) (told c.requests.lines (g.S.Source.left c.requests.source)) (told c.next_line.new.self (g.S.Source.left c.next_line.new.source)) c.next_line.new.line c.in-Some.kind
      (c.args.answers.now, c.args.beside.now) (c.requests.answers, c.requests.beside) (c.ask.new.answers, c.ask.new.beside) (g.K.Sink.held c.args.sink.now) (g.K.Sink.held c.requests.sink) (g.K.Sink.held c.send.new.sink) c.ask.new.text
      c.requests.invariant.served (rw c.in-Some.is at c.in_ok-next_line.ensures.next)
      (subst (λ (l : List ℕ). IsReply g.A.Answers.says (c.requests.answers, c.requests.beside) (c.ask.new.answers, c.ask.new.beside) l c.in-Some.kind c.ask.new.text) c.as_slice-request.ensures
      c.in_ok-ask-in-Some.ensures.reply)
      (subst (λ (l : List ℕ). Appends (g.K.Sink.held c.requests.sink) (g.K.Sink.held c.send.new.sink) l) c.as_slice-reply.ensures c.in_ok-send-in-Some.ensures.whole);
  ready = c.in_ok-ask-in-Some.ensures.ready;
  read = omega (arith, c.in_ok-next_line.ensures.cause.later, c.requests.invariant.read);
  wrote = omega (arith, c.in_ok-send-in-Some.ensures.cause.later, c.requests.invariant.wrote);
  beside = omega (arith, c.in_ok-ask-in-Some.ensures.later, c.requests.invariant.beside);
}

pub returns-clause-front : goal.returns-clause-front
returns-clause-front g c =
    front_served g.A.Answers.says (IsBefore g.A.Answers.faults c.requests.beside) (told c.args.held (g.S.Source.left c.args.source.now)) (told c.requests.lines (g.S.Source.left c.requests.source))
    (c.args.answers.now, c.args.beside.now) (c.requests.answers, c.requests.beside) (g.K.Sink.held c.args.sink.now) (g.K.Sink.held c.requests.sink) (omega arith) c.requests.invariant.served
