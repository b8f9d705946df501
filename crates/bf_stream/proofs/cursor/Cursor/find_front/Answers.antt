use Rattle.std.proofs.Common.{Ok, subst, sym, ap, arith, ◌∙◌}
use Rattle.bf_stream.specs.declared.window.Filled.{Filled}
use Rattle.bf_stream.specs.Filling.{Fills}
use Rattle.bf_stream.specs.Fronts.{FindsFront}
use Rattle.bf_stream.specs.Held.{Held, beyond_of, place_of}
use Rattle.bf_stream.proofs.Fronts.{answer_ended, answer_long, answer_end, answer_past, known_more, remaining_more}
use Rattle.bf_stream.proofs.cursor.Cursor.find_front.Goals as goal

pub returns-then-end-held-clause-front : goal.returns-then-end-held-clause-front
returns-then-end-held-clause-front g c =
    subst (λ (held : Held). FindsFront c.args.self.now.limits (place_of c.args.self.now.window (g.S.Source.left c.args.self.now.source.now)) held
    (g.S.Source.left c.reads.self.source.now) (Ok c.sized.result)) (sym c.note_line.ensures)
    (answer_ended c.args.self.now.limits _ _ _ c.bytes-bytes.result.now c.end_of_line-end.result _ c.reads.invariant.place c.bytes-bytes.ensures.bytes
    c.end_of_line-end.ensures c.if-end-held.true c.sized.ensures)

pub returns-then-held-enough-clause-front : goal.returns-then-held-enough-clause-front
returns-then-held-enough-clause-front g c =
    answer_long c.args.self.now.limits _ _ _ c.bytes-bytes.result.now c.end_of_line-end.result c.reads.invariant.place c.bytes-bytes.ensures.bytes
    c.end_of_line-end.ensures c.if-end-held.false (omega arith) (omega arith)

pub reads-preserved : goal.reads-preserved
reads-preserved g c =
    let gains = subst (λ (f : Filled). Fills c.reads.self.window c.fill.new.self (g.S.Source.left c.fill.new.source) (Ok f)) c.in-More.is
    c.in_ok-fill.ensures.filled in
    let left = remaining_more _ _ _ gains.1 in
    record {
      known = known_more _ _ c.bytes-bytes.result.now _ gains.0 c.bytes-bytes.ensures.bytes c.end_of_line-end.ensures c.if-end-held.false gains.1;
      place = c.in_ok-fill.ensures.place ∙ c.reads.invariant.place;
      goes = record {
        turns = omega (arith, left.0, c.reads.invariant.goes.turns);
        limits = c.reads.invariant.goes.limits;
        source = c.reads.invariant.goes.source;
        beyond = c.in_ok-fill.ensures.beyond ∙ c.reads.invariant.goes.beyond;
        later = omega (arith, c.in_ok-fill.ensures.cause.later, c.reads.invariant.goes.later);
      };
    }

pub returns-in-End-clause-front : goal.returns-in-End-clause-front
returns-in-End-clause-front g c =
    let ends = subst (λ (f : Filled). Fills c.reads.self.window c.fill.new.self (g.S.Source.left c.fill.new.source) (Ok f)) c.in-End.is
    c.in_ok-fill.ensures.filled in
    answer_end c.args.self.now.limits _ c.reads.self.window _ _ c.bytes-bytes.result.now c.end_of_line-end.result _
    (c.in_ok-fill.ensures.place ∙ c.reads.invariant.place)
    c.bytes-bytes.ensures.bytes c.end_of_line-end.ensures c.if-end-held.false ends c.ended.ensures

pub returns-in-Past-clause-front : goal.returns-in-Past-clause-front
returns-in-Past-clause-front g c =
    let passes = subst (λ (f : Filled). Fills c.reads.self.window c.fill.new.self (g.S.Source.left c.fill.new.source) (Ok f)) c.in-Past.is
    c.in_ok-fill.ensures.filled in
    answer_past c.args.self.now.limits _ c.reads.self.window _ _ c.bytes-bytes.result.now c.end_of_line-end.result _
    (c.in_ok-fill.ensures.place ∙ c.reads.invariant.place)
    c.bytes-bytes.ensures.bytes c.end_of_line-end.ensures c.if-end-held.false passes c.passed.ensures

pub returns-then-end-held-clause-beyond : goal.returns-then-end-held-clause-beyond
returns-then-end-held-clause-beyond g c =
    ap (λ (h : Held). beyond_of h (g.S.Source.left c.reads.self.source.now)) c.note_line.ensures ∙ c.reads.invariant.goes.beyond

pub returns-then-held-enough-clause-beyond : goal.returns-then-held-enough-clause-beyond
returns-then-held-enough-clause-beyond g c = c.reads.invariant.goes.beyond

pub returns-in-End-clause-beyond : goal.returns-in-End-clause-beyond
returns-in-End-clause-beyond g c = c.in_ok-fill.ensures.beyond ∙ c.reads.invariant.goes.beyond

pub returns-in-Past-clause-beyond : goal.returns-in-Past-clause-beyond
returns-in-Past-clause-beyond g c = c.in_ok-fill.ensures.beyond ∙ c.reads.invariant.goes.beyond
