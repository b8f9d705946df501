use Rattle.std.proofs.Common.{◌≡◌, ℕ, List, length, subst}
use Rattle.bf_answers.specs.Devices.{met_shelf}
use Rattle.bf_io.specs.Told.{Appends, AppendsFront}
use Rattle.bf_lines.specs.Lines.{told}
use Rattle.bf_protocol.specs.Events.{ready_line}
use Rattle.bf_serve_run.specs.declared.server.Server.{Server}
use Rattle.bf_serve_run.proofs.Replying.{if_err, on_err, on_ok}
use Rattle.bf_serve_run.proofs.Writing.{IsStart, front_of_first, front_of_none, ready_as, writes_all, writes_front, writes_some}
use Rattle.bf_serve_run.proofs.command.serve_requests.Goals as goal

-- ---- nothing was written

pub returns-in_err-reach-clause-front : goal.returns-in_err-reach-clause-front
returns-in_err-reach-clause-front g c =
    if_err c.from_residual.result
    (front_of_none c.args.history.now (met_shelf g.F.Shelf c.args.shelf.now c.args.shelf.now) (told c.args.held (g.S.Source.left c.args.source.now))
    (g.K.Sink.held c.args.sink.now))

pub returns-in_err-session-clause-front : goal.returns-in_err-session-clause-front
returns-in_err-session-clause-front g c =
    if_err c.from_residual-in_err-session.result
    (front_of_none c.args.history.now (met_shelf g.F.Shelf c.args.shelf.now c.args.shelf.now) (told c.args.held (g.S.Source.left c.args.source.now))
    (g.K.Sink.held c.args.sink.now))

pub returns-in_err-put_ready-clause-front : goal.returns-in_err-put_ready-clause-front
returns-in_err-put_ready-clause-front g c =
    if_err c.from_residual-in_err-put_ready.result
    (front_of_none c.args.history.now (met_shelf g.F.Shelf c.args.shelf.now c.args.shelf.now) (told c.args.held (g.S.Source.left c.args.source.now))
    (g.K.Sink.held c.args.sink.now))

-- ---- the first line

pub returns-in_err-write_and_flush-clause-front : goal.returns-in_err-write_and_flush-clause-front
returns-in_err-write_and_flush-clause-front g c =
    let text : c.as_slice.result.now ≡ ready_line (length c.args.history.now.parents) =
    ready_as c.len.result c.args.history.now c.new-ready.result c.put_ready.new.out c.as_slice.result.now c.new-ready.ensures c.in_ok-put_ready.ensures
    c.len.ensures.len c.as_slice.ensures in
    if_err c.from_residual-in_err-write_and_flush.result
    (front_of_first c.args.history.now (met_shelf g.F.Shelf c.args.shelf.now c.args.shelf.now) (told c.args.held (g.S.Source.left c.args.source.now))
    (g.K.Sink.held c.args.sink.now) (g.K.Sink.held c.write_and_flush.new.out)
    (subst (λ (t : List ℕ). AppendsFront (g.K.Sink.held c.args.sink.now) (g.K.Sink.held c.write_and_flush.new.out) t) text c.in_err-write_and_flush.ensures.front))

-- ---- the requests

pub returns-clause-all : goal.returns-clause-all
returns-clause-all g c =
    let text : c.as_slice.result.now ≡ ready_line (length c.args.history.now.parents) =
    ready_as c.len.result c.args.history.now c.new-ready.result c.put_ready.new.out c.as_slice.result.now c.new-ready.ensures c.in_ok-put_ready.ensures
    c.len.ensures.len c.as_slice.ensures in
    let ready : Appends (g.K.Sink.held c.args.sink.now) (g.K.Sink.held c.write_and_flush.new.out) (ready_line (length c.args.history.now.parents)) =
    subst (λ (t : List ℕ). Appends (g.K.Sink.held c.args.sink.now) (g.K.Sink.held c.write_and_flush.new.out) t) text c.in_ok-write_and_flush.ensures.whole in
    let old : Server = record { session = c.in_ok-session.session } in
    let start : IsStart c.args.history.now old = record { over = c.in_ok-session.ensures.history; none = c.in_ok-session.ensures.searches } in
    on_ok c.serve_lines.result
    (λ serves. writes_all g.F.Shelf c.args.history.now old c.serve_lines.new.answers c.args.shelf.now c.serve_lines.new.beside start
    (told c.args.held (g.S.Source.left c.args.source.now)) (g.K.Sink.held c.args.sink.now) (g.K.Sink.held c.write_and_flush.new.out)
    (g.K.Sink.held c.serve_lines.new.sink) ready serves)
    c.serve_lines.ensures.served

pub returns-clause-some : goal.returns-clause-some
returns-clause-some g c = λ e.
    let text : c.as_slice.result.now ≡ ready_line (length c.args.history.now.parents) =
    ready_as c.len.result c.args.history.now c.new-ready.result c.put_ready.new.out c.as_slice.result.now c.new-ready.ensures c.in_ok-put_ready.ensures
    c.len.ensures.len c.as_slice.ensures in
    let ready : Appends (g.K.Sink.held c.args.sink.now) (g.K.Sink.held c.write_and_flush.new.out) (ready_line (length c.args.history.now.parents)) =
    subst (λ (t : List ℕ). Appends (g.K.Sink.held c.args.sink.now) (g.K.Sink.held c.write_and_flush.new.out) t) text c.in_ok-write_and_flush.ensures.whole in
    let old : Server = record { session = c.in_ok-session.session } in
    let start : IsStart c.args.history.now old = record { over = c.in_ok-session.ensures.history; none = c.in_ok-session.ensures.searches } in
    writes_some g.F.Shelf c.args.history.now old c.serve_lines.new.answers c.args.shelf.now c.serve_lines.new.beside start
    (told c.args.held (g.S.Source.left c.args.source.now)) (g.K.Sink.held c.args.sink.now) (g.K.Sink.held c.write_and_flush.new.out)
    (g.K.Sink.held c.serve_lines.new.sink) ready (c.serve_lines.ensures.read e)

pub returns-clause-front : goal.returns-clause-front
returns-clause-front g c =
    let text : c.as_slice.result.now ≡ ready_line (length c.args.history.now.parents) =
    ready_as c.len.result c.args.history.now c.new-ready.result c.put_ready.new.out c.as_slice.result.now c.new-ready.ensures c.in_ok-put_ready.ensures
    c.len.ensures.len c.as_slice.ensures in
    let ready : Appends (g.K.Sink.held c.args.sink.now) (g.K.Sink.held c.write_and_flush.new.out) (ready_line (length c.args.history.now.parents)) =
    subst (λ (t : List ℕ). Appends (g.K.Sink.held c.args.sink.now) (g.K.Sink.held c.write_and_flush.new.out) t) text c.in_ok-write_and_flush.ensures.whole in
    let old : Server = record { session = c.in_ok-session.session } in
    let start : IsStart c.args.history.now old = record { over = c.in_ok-session.ensures.history; none = c.in_ok-session.ensures.searches } in
    on_err c.serve_lines.result
    (λ serves. writes_front g.F.Shelf c.args.history.now old c.args.shelf.now c.serve_lines.new.beside start
    (told c.args.held (g.S.Source.left c.args.source.now)) (g.K.Sink.held c.args.sink.now) (g.K.Sink.held c.write_and_flush.new.out)
    (g.K.Sink.held c.serve_lines.new.sink) ready serves)
    c.serve_lines.ensures.front
