use Rattle.std.proofs.Common.{◌+◌, min, Ok, length, subst, ap, ◌∙◌, arith}
use Rattle.bf_stream.specs.declared.window.Filled.{Filled}
use Rattle.bf_stream.specs.Filling.{IsReady}
use Rattle.bf_stream.proofs.Ends.{end_at-le}
use Rattle.bf_stream.proofs.Delimited.{content_end, content_past, content_large, content_piece}
use Rattle.bf_stream.specs.Held.{Held, beyond_of}
use Rattle.bf_stream.proofs.cursor.Cursor.take_content_piece.Goals as goal

pub returns-in-End-clause-piece : goal.returns-in-End-clause-piece
returns-in-End-clause-piece g c =
    let ready = subst (λ (f : Filled). IsReady c.fill_if_empty.new.self (g.S.Source.left c.fill_if_empty.new.source) (Ok f)) c.in-End.is
    c.in_ok-fill_if_empty.ensures.ready in
    content_end c.args.self.now.limits c.args.line c.args.content.now _ _ c.fill_if_empty.new.self (g.S.Source.left c.fill_if_empty.new.source)
    c.in_ok-fill_if_empty.ensures.place c.requires ready.0 ready.1 ready.2

pub returns-in-Past-clause-piece : goal.returns-in-Past-clause-piece
returns-in-Past-clause-piece g c =
    let ready = subst (λ (f : Filled). IsReady c.fill_if_empty.new.self (g.S.Source.left c.fill_if_empty.new.source) (Ok f)) c.in-Past.is
    c.in_ok-fill_if_empty.ensures.ready in
    content_past c.args.self.now.limits c.args.line c.args.content.now _ _ c.fill_if_empty.new.self (g.S.Source.left c.fill_if_empty.new.source)
    c.in_ok-fill_if_empty.ensures.place c.requires ready.0 ready.1 ready.2

pub with_end_of_line-piece-requires : goal.with_end_of_line-piece-requires
with_end_of_line-piece-requires g c = omega (arith, end_at-le c.bytes-bytes.result.now)

pub returns-then-piece-self-clause-piece : goal.returns-then-piece-self-clause-piece
returns-then-piece-self-clause-piece g c =
    content_large c.args.self.now.limits c.args.line c.args.content.now c.bytes-bytes.result.now c.with_end_of_line-piece.result _ _ c.fill_if_empty.new.self
    (g.S.Source.left c.fill_if_empty.new.source) c.in_ok-fill_if_empty.ensures.place c.bytes-bytes.ensures.bytes
    (c.with_end_of_line-piece.ensures ∙ ap (λ n. min (n + 1) (length c.bytes-bytes.result.now)) c.end_of_line-end.ensures) (omega arith)

pub returns-clause-piece : goal.returns-clause-piece
returns-clause-piece g c =
    content_piece c.args.self.now.limits c.args.line c.args.content.now c.append.new.self c.bytes-bytes.result.now c.end_of_line-end.result
    c.with_end_of_line-piece.result _ c.fill_if_empty.new.self c.take.new.self (g.S.Source.left c.fill_if_empty.new.source)
    c.in_ok-fill_if_empty.ensures.place c.bytes-bytes.ensures.bytes c.end_of_line-end.ensures c.with_end_of_line-piece.ensures c.requires (omega arith)
    c.in_ok-append.ensures.ok c.take.ensures

pub returns-clause-beyond : goal.returns-clause-beyond
returns-clause-beyond g c =
    ap (λ (h : Held). beyond_of h (g.S.Source.left c.fill_if_empty.new.source)) c.take.ensures ∙ c.in_ok-fill_if_empty.ensures.beyond
