use Rattle.std.proofs.Common.{ℕ, ◌≡◌, ◌++◌, List, Ok, take, subst, refl, ap, ◌∙◌, arith, length}
use Rattle.bf_grammar.specs.declared.fault.Limit.TheVariants.{Stream}
use Rattle.bf_grammar.specs.declared.fault.StreamFault.TheVariants.{Truncated, TooLarge}
use Rattle.bf_stream.specs.declared.window.Filled.{Filled}
use Rattle.bf_stream.specs.Data.{bytes_from}
use Rattle.bf_stream.specs.Filling.{IsReady}
use Rattle.bf_stream.proofs.Going.{gives_fault_where}
use Rattle.bf_stream.proofs.Pieces.{rest_at_end, rest_at_past, bytes_end, bytes_past, piece_taken}
use Rattle.bf_stream.specs.Held.{Held, beyond_of}
use Rattle.bf_stream.proofs.cursor.Cursor.take_piece.Goals as goal

pub returns-in-End-clause-piece : goal.returns-in-End-clause-piece
returns-in-End-clause-piece g c =
    let ready = subst (λ (f : Filled). IsReady c.fill_if_empty.new.self (g.S.Source.left c.fill_if_empty.new.source) (Ok f)) c.in-End.is
    c.in_ok-fill_if_empty.ensures.ready in
    gives_fault_where (λ (bytes : List ℕ). bytes) _ _ (Truncated c.args.line) (bytes_from c.args.line c.args.bytes.now c.args.left)
    (λ q here. let spent = rest_at_end c.fill_if_empty.new.self _ ready.1 ready.2 q (c.in_ok-fill_if_empty.ensures.place ∙ here) in
    bytes_end c.args.line c.args.left c.args.bytes.now q c.requires (spent.0 ∙ ready.0) spent.1)

pub returns-in-Past-clause-piece : goal.returns-in-Past-clause-piece
returns-in-Past-clause-piece g c =
    let ready = subst (λ (f : Filled). IsReady c.fill_if_empty.new.self (g.S.Source.left c.fill_if_empty.new.source) (Ok f)) c.in-Past.is
    c.in_ok-fill_if_empty.ensures.ready in
    gives_fault_where (λ (bytes : List ℕ). bytes) _ _ (TooLarge Stream) (bytes_from c.args.line c.args.bytes.now c.args.left)
    (λ q here. let spent = rest_at_past c.fill_if_empty.new.self _ ready.1 ready.2 q (c.in_ok-fill_if_empty.ensures.place ∙ here) in
    bytes_past c.args.line c.args.left c.args.bytes.now q c.requires (spent.0 ∙ ready.0) spent.1)

pub returns-clause-piece : goal.returns-clause-piece
returns-clause-piece g c =
    let held : length c.bytes-held.result.now ≡ length c.fill_if_empty.new.self.bytes = ap length c.bytes-held.ensures.bytes in
    piece_taken c.args.line c.args.left c.min-piece.result c.args.bytes.now c.append.new.self _ _ c.fill_if_empty.new.self c.take.new.self
    (g.S.Source.left c.fill_if_empty.new.source)
    c.in_ok-fill_if_empty.ensures.place c.take.ensures (omega arith) (omega arith)
    (c.in_ok-append.ensures.ok ∙ ap (λ (l : List ℕ). c.args.bytes.now ++ take c.min-piece.result l) c.bytes-held.ensures.bytes) refl

pub returns-clause-beyond : goal.returns-clause-beyond
returns-clause-beyond g c =
    ap (λ (h : Held). beyond_of h (g.S.Source.left c.fill_if_empty.new.source)) c.take.ensures ∙ c.in_ok-fill_if_empty.ensures.beyond
