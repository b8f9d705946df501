use Rattle.std.proofs.Common.{Ok, subst, arith, ◌∙◌, rules}
use Rattle.bf_stream.specs.declared.window.Filled.{Filled}
use Rattle.bf_stream.specs.Filling.{Fills}
use Rattle.bf_stream.proofs.Chains.{reads_as}
use Rattle.bf_stream.proofs.Delimited.{delimiter_ended, delimiter_end, delimiter_longer, delimiter_past}
use Rattle.bf_stream.proofs.Fronts.{known_more, remaining_more}
use Rattle.bf_stream.proofs.cursor.Cursor.take_delimiter.Goals as goal

pub returns-then-end-held : goal.returns-then-end-held
returns-then-end-held g c =
    reads_as (delimiter_ended c.args.delimiter.now c.reads.self.window c.take_line_if.new.self (g.S.Source.left c.reads.self.source.now) _
    c.bytes-bytes.result.now c.end_of_line-end.result c.take_line_if.result
    c.reads.invariant.place c.bytes-bytes.ensures.bytes c.end_of_line-end.ensures c.if-end-held.true c.take_line_if.ensures.test c.take_line_if.ensures.held)
    (search rules) (c.take_line_if.ensures.beyond _ ∙ c.reads.invariant.goes.beyond)

pub returns-then-held-delimiter : goal.returns-then-held-delimiter
returns-then-held-delimiter g c =
    reads_as (delimiter_longer c.args.delimiter.now c.reads.self.window (g.S.Source.left c.reads.self.source.now) _ c.bytes-bytes.result.now
    c.end_of_line-end.result
    c.reads.invariant.place c.bytes-bytes.ensures.bytes c.end_of_line-end.ensures c.if-end-held.false c.if-held-delimiter.true) (search rules) c.reads.invariant.goes.beyond

pub reads-preserved : goal.reads-preserved
reads-preserved g c =
    let gains = subst (λ (f : Filled). Fills c.reads.self.window c.fill.new.self (g.S.Source.left c.fill.new.source) (Ok f)) c.in-More.is
    c.in_ok-fill.ensures.filled in
    let left = remaining_more _ _ _ gains.1 in
    record {
      known = known_more _ _ c.bytes-bytes.result.now _ gains.0 c.bytes-bytes.ensures.bytes c.end_of_line-end.ensures c.if-end-held.false gains.1;
      place = c.in_ok-fill.ensures.place ∙ c.reads.invariant.place;
      goes = record {
        turns = omega (arith, left.0, c.reads.invariant.goes.turns);
        limits = c.reads.invariant.goes.limits;
        source = c.reads.invariant.goes.source;
        beyond = c.in_ok-fill.ensures.beyond ∙ c.reads.invariant.goes.beyond;
        later = omega (arith, c.in_ok-fill.ensures.cause.later, c.reads.invariant.goes.later);
      };
    }

pub returns-in-End : goal.returns-in-End
returns-in-End g c =
    let ends = subst (λ (f : Filled). Fills c.reads.self.window c.fill.new.self (g.S.Source.left c.fill.new.source) (Ok f)) c.in-End.is
    c.in_ok-fill.ensures.filled in
    reads_as (delimiter_end c.args.delimiter.now c.reads.self.window c.fill.new.self c.take_line_if-in-End.new.self (g.S.Source.left c.fill.new.source) _
    c.take_line_if-in-End.result
    (c.in_ok-fill.ensures.place ∙ c.reads.invariant.place) ends c.take_line_if-in-End.ensures.test c.take_line_if-in-End.ensures.held) (search rules)
    (c.take_line_if-in-End.ensures.beyond _ ∙ c.in_ok-fill.ensures.beyond ∙ c.reads.invariant.goes.beyond)

pub returns-in-Past : goal.returns-in-Past
returns-in-Past g c =
    let passes = subst (λ (f : Filled). Fills c.reads.self.window c.fill.new.self (g.S.Source.left c.fill.new.source) (Ok f)) c.in-Past.is
    c.in_ok-fill.ensures.filled in
    reads_as (delimiter_past c.args.delimiter.now c.reads.self.window c.fill.new.self (g.S.Source.left c.fill.new.source) _ c.bytes-bytes.result.now
    c.end_of_line-end.result
    (c.in_ok-fill.ensures.place ∙ c.reads.invariant.place) c.bytes-bytes.ensures.bytes c.end_of_line-end.ensures c.if-end-held.false passes) (search rules)
    (c.in_ok-fill.ensures.beyond ∙ c.reads.invariant.goes.beyond)
