use Rattle.std.proofs.Common.{rules, ◌+◌, length, drop, count_by, Some, sym, ap, ◌∙◌, arith, eq-eqb}
use Rattle.std.proofs.lemmas.Bool.{ne_eqb}
use Rattle.bf_claims.specs.Goods.{strange}
use Rattle.bf_claims.proofs.Strange.{strange_here, strange_next, none_strange, strange_behind}
use Rattle.bf_claims.proofs.goods.strange.Goals as goal

pub returns-else-get-clause-value : goal.returns-else-get-clause-value
returns-else-get-clause-value c =
    sym (c.loop-index.invariant.same
    ∙ strange_here c.loop-index.claimed c.loop-index.index c.loop-index.index c.args.listed.now c.loop-index-test.true (sym c.get.ensures ∙ c.if-get.false))

pub loop-index-preserved : goal.loop-index-preserved
loop-index-preserved c = record {
  len = ap length c.set.ensures ∙ search (rules, c.loop-index.invariant.len);
  same = c.loop-index.invariant.same
      ∙ strange_next c.loop-index.claimed c.loop-index.index c.loop-index.index c.args.listed.now c.loop-index-test.true
      (sym c.get.ensures ∙ c.if-get.true)
      ∙ ap (λ row. strange row (c.loop-index.index + 1) (drop (c.loop-index.index + 1) c.args.listed.now)) (sym c.set.ensures);
}

pub returns-then-count-eq0-clause-value : goal.returns-then-count-eq0-clause-value
returns-then-count-eq0-clause-value c =
    sym (c.loop-index.invariant.same
    ∙ none_strange c.loop-index.claimed c.loop-index.index c.loop-index.index c.args.listed.now c.loop-index-test.false
    (eq-eqb (count_by (λ value. value) c.loop-index.claimed) 0 (sym c.count.ensures ∙ c.if-count-eq0.true)))

pub returns-clause-value : goal.returns-clause-value
returns-clause-value c =
    sym (c.loop-index.invariant.same
    ∙ strange_behind c.loop-index.claimed c.loop-index.index c.loop-index.index c.args.listed.now c.loop-index-test.false
    (ne_eqb (count_by (λ value. value) c.loop-index.claimed) 0 (λ e. c.if-count-eq0.false (c.count.ensures ∙ e)))
    ∙ ap Some (omega (arith, c.loop-index-test.false, c.loop-index.auto.index-end)))
