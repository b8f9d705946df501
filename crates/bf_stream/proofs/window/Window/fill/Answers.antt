use Rattle.std.proofs.Common.{◌+◌, ◌-◌, ◌≤◌, take, drop, refl, ap, ◌∙◌, arith}
use Rattle.std.proofs.lemmas.Bool.{false_from_ne_true}
use Rattle.bf_stream.specs.Held.{Held, beyond_of, place_of}
use Rattle.bf_stream.specs.Window.{is_seen}
use Rattle.bf_stream.specs.contracts.window.Window.{the_view}
use Rattle.bf_stream.proofs.Filled.{Fills-err, view-kept, view-grown, Gains-place, Ends-place, kept-beyond, Ends-beyond, Gains-beyond}
use Rattle.bf_stream.proofs.window.Window.fill.Goals as goal

pub returns-in_err-count-clause-filled : goal.returns-in_err-count-clause-filled
returns-in_err-count-clause-filled g c =
    Fills-err c.args.self.now _ _ _ c.from_residual.ensures.0 (rw (← c.self.view_is)
    (view-kept (the_view c.self.inside) c.self.inside.buf.items c.make_room-start.new.buf.items c.read_behind.new.buf.items
    (c.self.inside.end - c.self.inside.start) c.self.inside.start c.make_room-start.result refl c.make_room-start.ensures.part c.read_behind.ensures.before))

pub returns-then-count-eq0-clause-filled : goal.returns-then-count-eq0-clause-filled
returns-then-count-eq0-clause-filled g c = record {
  held = rw (← c.self.view_is)
      (view-kept (the_view c.self.inside) c.self.inside.buf.items c.make_room-start.new.buf.items c.read_behind.new.buf.items
      (c.self.inside.end - c.self.inside.start) c.self.inside.start c.make_room-start.result refl c.make_room-start.ensures.part c.read_behind.ensures.before);
  within = rw (← c.self.view_is) (false_from_ne_true (is_seen c.self.inside.beyond) (λ t. c.if-self-eq0.false (c.self.invariant.spent t)));
  ended = c.in_ok-count.ensures.bytes.1 c.if-count-eq0.true;
}

pub returns-then-count-eq0-clause-place : goal.returns-then-count-eq0-clause-place
returns-then-count-eq0-clause-place g c =
    Ends-place c.args.self.now _ _ _
    (view-kept (the_view c.self.inside) c.self.inside.buf.items c.make_room-start.new.buf.items c.read_behind.new.buf.items
    (c.self.inside.end - c.self.inside.start) c.self.inside.start c.make_room-start.result refl c.make_room-start.ensures.part c.read_behind.ensures.before
    ∙ c.self.view_is)
    (rw c.if-count-eq0.true at c.in_ok-count.ensures.bytes.0)

pub returns-then-count-eq0-clause-beyond : goal.returns-then-count-eq0-clause-beyond
returns-then-count-eq0-clause-beyond g c =
    Ends-beyond c.args.self.now _ _ _
    (view-kept (the_view c.self.inside) c.self.inside.buf.items c.make_room-start.new.buf.items c.read_behind.new.buf.items
    (c.self.inside.end - c.self.inside.start) c.self.inside.start c.make_room-start.result refl c.make_room-start.ensures.part c.read_behind.ensures.before
    ∙ c.self.view_is)
    (rw c.if-count-eq0.true at c.in_ok-count.ensures.bytes.0)

pub returns-in_err-count-clause-beyond : goal.returns-in_err-count-clause-beyond
returns-in_err-count-clause-beyond g c =
    kept-beyond c.args.self.now _ _ _
    (view-kept (the_view c.self.inside) c.self.inside.buf.items c.make_room-start.new.buf.items c.read_behind.new.buf.items
    (c.self.inside.end - c.self.inside.start) c.self.inside.start c.make_room-start.result refl c.make_room-start.ensures.part c.read_behind.ensures.before
    ∙ c.self.view_is)
    c.in_err-count.ensures.bytes

pub returns-clause-filled : goal.returns-clause-filled
returns-clause-filled g c =
    let n = c.in_ok-count.count in
    let size = c.self.inside.end - c.self.inside.start in
    let bound : n ≤ c.min-most.result = c.in_ok-count.ensures.bound in
    let long = c.read_behind.new.buf.ok.0 in
    let gains = view-grown (the_view c.self.inside) c.self.inside.buf.items c.make_room-start.new.buf.items c.read_behind.new.buf.items
    size c.self.inside.start c.make_room-start.result n refl c.make_room-start.ensures.part c.read_behind.ensures.before
    (omega arith) (omega arith) (omega arith) in
    (take n (drop (c.make_room-start.result + size) c.read_behind.new.buf.items), rw (← c.self.view_is) gains)

pub returns-clause-place : goal.returns-clause-place
returns-clause-place g c =
    let n = c.in_ok-count.count in
    let size = c.self.inside.end - c.self.inside.start in
    let bound : n ≤ c.min-most.result = c.in_ok-count.ensures.bound in
    let long = c.read_behind.new.buf.ok.0 in
    let gains = view-grown (the_view c.self.inside) c.self.inside.buf.items c.make_room-start.new.buf.items c.read_behind.new.buf.items
    size c.self.inside.start c.make_room-start.result n refl c.make_room-start.ensures.part c.read_behind.ensures.before
    (omega arith) (omega arith) (omega arith) in
    Gains-place (the_view c.self.inside) _ _ _ (take n (drop (c.make_room-start.result + size) c.read_behind.new.buf.items)) gains
    c.in_ok-count.ensures.bytes.0
    ∙ ap (λ (h : Held). place_of h (g.S.Source.left c.args.source.now)) c.self.view_is

pub returns-clause-beyond : goal.returns-clause-beyond
returns-clause-beyond g c =
    let n = c.in_ok-count.count in
    let size = c.self.inside.end - c.self.inside.start in
    let bound : n ≤ c.min-most.result = c.in_ok-count.ensures.bound in
    let long = c.read_behind.new.buf.ok.0 in
    let gains = view-grown (the_view c.self.inside) c.self.inside.buf.items c.make_room-start.new.buf.items c.read_behind.new.buf.items
    size c.self.inside.start c.make_room-start.result n refl c.make_room-start.ensures.part c.read_behind.ensures.before
    (omega arith) (omega arith) (omega arith) in
    Gains-beyond (the_view c.self.inside) _ _ _ (take n (drop (c.make_room-start.result + size) c.read_behind.new.buf.items)) gains
    c.in_ok-count.ensures.bytes.0
    ∙ ap (λ (h : Held). beyond_of h (g.S.Source.left c.args.source.now)) c.self.view_is
