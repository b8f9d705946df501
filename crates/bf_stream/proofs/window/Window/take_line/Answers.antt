use Rattle.std.proofs.Common.{ap}
use Rattle.bf_stream.specs.Held.{Held, beyond_of}
use Rattle.bf_stream.proofs.Holding.{past_held_line-place, past_held_line-then, past_held_line-else}
use Rattle.bf_stream.proofs.window.Window.take_line.Goals as goal

pub returns-then-end-held-clause-held : goal.returns-then-end-held-clause-held
returns-then-end-held-clause-held c =
    past_held_line-then c.args.self.now _ c.bytes-bytes.result.now _ c.bytes-bytes.ensures.bytes c.end_of_line-end.ensures c.if-end-held.true c.advance.ensures

pub returns-then-end-held-clause-place : goal.returns-then-end-held-clause-place
returns-then-end-held-clause-place c =
    past_held_line-place _ _ (past_held_line-then c.args.self.now _ c.bytes-bytes.result.now _ c.bytes-bytes.ensures.bytes c.end_of_line-end.ensures
    c.if-end-held.true c.advance.ensures)

pub returns-else-end-held-clause-held : goal.returns-else-end-held-clause-held
returns-else-end-held-clause-held c =
    past_held_line-else c.args.self.now _ c.bytes-bytes.result.now _ c.bytes-bytes.ensures.bytes c.end_of_line-end.ensures c.if-end-held.false
    c.advance-else-end-held.ensures

pub returns-else-end-held-clause-place : goal.returns-else-end-held-clause-place
returns-else-end-held-clause-place c =
    past_held_line-place _ _ (past_held_line-else c.args.self.now _ c.bytes-bytes.result.now _ c.bytes-bytes.ensures.bytes c.end_of_line-end.ensures
    c.if-end-held.false c.advance-else-end-held.ensures)

pub returns-then-end-held-clause-beyond : goal.returns-then-end-held-clause-beyond
returns-then-end-held-clause-beyond c = λ left. ap (λ (h : Held). beyond_of h left) c.advance.ensures

pub returns-else-end-held-clause-beyond : goal.returns-else-end-held-clause-beyond
returns-else-end-held-clause-beyond c = λ left. ap (λ (h : Held). beyond_of h left) c.advance-else-end-held.ensures
