use Rattle.std.proofs.Common.{ℕ, ◌≡◌, ◌+◌, true, [], List, Option, length, subst, sym, ap, ◌∙◌, arith, refl}
use Rattle.bf_lines.specs.Lines.{Loses, Passes, told}
use Rattle.bf_lines.proofs.Filling.{drop-all, told_filled, told_failed}
use Rattle.bf_lines.proofs.Finding.{at_front, err_as, loses_none, lost_all, none_held, passes_end, passes_last}
use Rattle.bf_lines.proofs.lines.Lines.pass_line.Goals as goal

pub pieces-init : goal.pieces-init
pieces-init g c = record {
  lost = loses_none (told c.args.self.now (g.S.Source.left c.args.source.now));
  same = λ some. refl;
  unread = λ some. refl;
  later = omega arith;
}

pub take_line-requires : goal.take_line-requires
take_line-requires g c = omega (arith, c.end_of_line-end.ensures.within, ap length c.bytes-bytes.ensures)

pub fill-requires : goal.fill-requires
fill-requires g c =
    let nothing : c.take_line.new.self ≡ [] = c.take_line.ensures ∙ drop-all (c.end_of_line-end.result + 1) c.pieces.self
    (omega (arith, ap length c.bytes-bytes.ensures)) in
    omega (arith, ap length nothing)

pub returns-then-end-held-clause-passes : goal.returns-then-end-held-clause-passes
returns-then-end-held-clause-passes g c =
    subst (λ (l : List ℕ). Passes (told c.args.self.now (g.S.Source.left c.args.source.now)) (told l (g.S.Source.left c.pieces.source)) true)
    (sym c.take_line.ensures)
    (passes_end _ c.pieces.self (g.S.Source.left c.pieces.source) c.end_of_line-end.result
    (at_front _ _ _ c.bytes-bytes.ensures c.end_of_line-end.ensures) (omega (arith, ap length c.bytes-bytes.ensures)) c.pieces.invariant.lost)

pub returns-in_err-count-clause-lost : goal.returns-in_err-count-clause-lost
returns-in_err-count-clause-lost g c =
    err_as c.from_residual.result
    (Loses (told c.args.self.now (g.S.Source.left c.args.source.now)) (told c.fill.new.self (g.S.Source.left c.fill.new.source)))
    (subst (λ (o : Option (List ℕ)). Loses (told c.args.self.now (g.S.Source.left c.args.source.now)) o)
    (sym (told_failed c.take_line.new.self c.fill.new.self _ _ _ c.in_err-count.ensures.bytes))
    (lost_all _ c.bytes-bytes.result.now c.pieces.self c.take_line.new.self (g.S.Source.left c.pieces.source) c.end_of_line-end.result c.bytes-bytes.ensures
    c.end_of_line-end.ensures (omega arith) c.take_line.ensures c.pieces.invariant.lost))

pub returns-in_err-count-clause-held : goal.returns-in_err-count-clause-held
returns-in_err-count-clause-held g c =
    λ some. none_held _ c.bytes-bytes.result.now c.pieces.self c.args.self.now c.end_of_line-end.result c.bytes-bytes.ensures (c.pieces.invariant.same some)
    c.end_of_line-end.ensures (omega arith) some

pub returns-then-count-eq0-clause-passes : goal.returns-then-count-eq0-clause-passes
returns-then-count-eq0-clause-passes g c =
    let nothing : c.take_line.new.self ≡ [] = c.take_line.ensures ∙ drop-all (c.end_of_line-end.result + 1) c.pieces.self
    (omega (arith, ap length c.bytes-bytes.ensures)) in
    passes_last _ c.take_line.new.self c.fill.new.self _ _ c.in_ok-count.count nothing c.in_ok-count.ensures.bytes c.if-count-eq0.true
    (subst (λ (o : Option (List ℕ)). Loses (told c.args.self.now (g.S.Source.left c.args.source.now)) o)
    (sym (told_filled c.take_line.new.self c.fill.new.self _ _ c.in_ok-count.count c.in_ok-count.ensures.bytes))
    (lost_all _ c.bytes-bytes.result.now c.pieces.self c.take_line.new.self (g.S.Source.left c.pieces.source) c.end_of_line-end.result c.bytes-bytes.ensures
    c.end_of_line-end.ensures (omega arith) c.take_line.ensures c.pieces.invariant.lost))

pub returns-then-count-eq0-clause-held : goal.returns-then-count-eq0-clause-held
returns-then-count-eq0-clause-held g c =
    λ some. none_held _ c.bytes-bytes.result.now c.pieces.self c.args.self.now c.end_of_line-end.result c.bytes-bytes.ensures (c.pieces.invariant.same some)
    c.end_of_line-end.ensures (omega arith) some

pub pieces-preserved : goal.pieces-preserved
pieces-preserved g c = record {
  lost = subst (λ (o : Option (List ℕ)). Loses (told c.args.self.now (g.S.Source.left c.args.source.now)) o)
      (sym (told_filled c.take_line.new.self c.fill.new.self _ _ c.in_ok-count.count c.in_ok-count.ensures.bytes))
      (lost_all _ c.bytes-bytes.result.now c.pieces.self c.take_line.new.self (g.S.Source.left c.pieces.source) c.end_of_line-end.result
      c.bytes-bytes.ensures c.end_of_line-end.ensures (omega arith) c.take_line.ensures c.pieces.invariant.lost);
  same = λ some. none_held _ c.bytes-bytes.result.now c.pieces.self c.args.self.now c.end_of_line-end.result c.bytes-bytes.ensures
      (c.pieces.invariant.same some) c.end_of_line-end.ensures (omega arith) some;
  unread = λ some. none_held _ c.bytes-bytes.result.now c.pieces.self c.args.self.now c.end_of_line-end.result c.bytes-bytes.ensures
      (c.pieces.invariant.same some) c.end_of_line-end.ensures (omega arith) some;
  later = omega (arith, c.in_ok-count.ensures.cause.later, c.pieces.invariant.later);
}
