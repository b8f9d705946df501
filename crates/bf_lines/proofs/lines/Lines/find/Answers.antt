use Rattle.std.proofs.Common.{length, ap, ◌∙◌, arith}
use Rattle.bf_lines.proofs.Filling.{told_filled, told_failed, shorter}
use Rattle.bf_lines.proofs.Finding.{at_front, found_long, found_line, found_nothing, none_held}
use Rattle.bf_lines.proofs.lines.Lines.find.Goals as goal

pub returns-then-end-gt-MOST-clause-found : goal.returns-then-end-gt-MOST-clause-found
returns-then-end-gt-MOST-clause-found g c =
    found_long c.reads.self (g.S.Source.left c.reads.source) c.end_of_line-end.result (at_front _ _ _ c.bytes-bytes.ensures c.end_of_line-end.ensures) (omega arith)

pub returns-then-end-held-clause-found : goal.returns-then-end-held-clause-found
returns-then-end-held-clause-found g c =
    found_line c.reads.self (g.S.Source.left c.reads.source) c.end_of_line-end.result (at_front _ _ _ c.bytes-bytes.ensures c.end_of_line-end.ensures) (omega arith)
    (omega (arith, ap length c.bytes-bytes.ensures))

pub fill-requires : goal.fill-requires
fill-requires g c = omega (arith, ap length c.bytes-bytes.ensures)

pub returns-in_err-count-clause-stays : goal.returns-in_err-count-clause-stays
returns-in_err-count-clause-stays g c = told_failed c.reads.self c.fill.new.self _ _ _ c.in_err-count.ensures.bytes ∙ c.reads.invariant.stays

pub returns-in_err-count-clause-held : goal.returns-in_err-count-clause-held
returns-in_err-count-clause-held g c =
    λ some. none_held _ c.bytes-bytes.result.now c.reads.self c.args.self.now c.end_of_line-end.result c.bytes-bytes.ensures (c.reads.invariant.same some)
    c.end_of_line-end.ensures (omega arith) some

pub returns-in_err-count-clause-same : goal.returns-in_err-count-clause-same
returns-in_err-count-clause-same g c =
    λ some. none_held _ c.bytes-bytes.result.now c.reads.self c.args.self.now c.end_of_line-end.result c.bytes-bytes.ensures (c.reads.invariant.same some)
    c.end_of_line-end.ensures (omega arith) some

pub returns-then-count-eq0-clause-same : goal.returns-then-count-eq0-clause-same
returns-then-count-eq0-clause-same g c =
    λ some. none_held _ c.bytes-bytes.result.now c.reads.self c.args.self.now c.end_of_line-end.result c.bytes-bytes.ensures (c.reads.invariant.same some)
    c.end_of_line-end.ensures (omega arith) some

pub returns-then-count-eq0-clause-found : goal.returns-then-count-eq0-clause-found
returns-then-count-eq0-clause-found g c =
    found_nothing c.reads.self c.fill.new.self _ _ c.end_of_line-end.result c.in_ok-count.count
    (at_front _ _ _ c.bytes-bytes.ensures c.end_of_line-end.ensures) (omega (arith, ap length c.bytes-bytes.ensures))
    c.in_ok-count.ensures.bytes c.if-count-eq0.true

pub returns-then-count-eq0-clause-stays : goal.returns-then-count-eq0-clause-stays
returns-then-count-eq0-clause-stays g c =
    told_filled c.reads.self c.fill.new.self _ _ c.in_ok-count.count c.in_ok-count.ensures.bytes ∙ c.reads.invariant.stays

pub returns-then-count-eq0-clause-held : goal.returns-then-count-eq0-clause-held
returns-then-count-eq0-clause-held g c =
    λ some. none_held _ c.bytes-bytes.result.now c.reads.self c.args.self.now c.end_of_line-end.result c.bytes-bytes.ensures (c.reads.invariant.same some)
    c.end_of_line-end.ensures (omega arith) some

pub reads-preserved : goal.reads-preserved
reads-preserved g c = record {
  stays = told_filled c.reads.self c.fill.new.self _ _ c.in_ok-count.count c.in_ok-count.ensures.bytes ∙ c.reads.invariant.stays;
  same = λ some. none_held _ c.bytes-bytes.result.now c.reads.self c.args.self.now c.end_of_line-end.result c.bytes-bytes.ensures
      (c.reads.invariant.same some) c.end_of_line-end.ensures (omega arith) some;
  unread = λ some. none_held _ c.bytes-bytes.result.now c.reads.self c.args.self.now c.end_of_line-end.result c.bytes-bytes.ensures
      (c.reads.invariant.same some) c.end_of_line-end.ensures (omega arith) some;
  later = omega (arith, c.in_ok-count.ensures.cause.later, c.reads.invariant.later);
}

pub reads-smaller : goal.reads-smaller
reads-smaller g c = shorter c.reads.self c.fill.new.self _ _ c.in_ok-count.count c.in_ok-count.ensures.bytes c.if-count-eq0.false
    (omega (arith, ap length c.bytes-bytes.ensures))
