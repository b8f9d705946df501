use Rattle.std.proofs.Common.{sym, ◌∙◌, arith}
use Rattle.bf_names.proofs.Walking.{ancestor-none, ancestor-parent, ancestor-zero}
use Rattle.bf_names.proofs.walk.ancestor.Goals as goal

pub returns-in_err-place-clause-value : goal.returns-in_err-place-clause-value
returns-in_err-place-clause-value c =
    c.from_residual.ensures ∙ sym (c.loop-left.invariant.0 ∙ ancestor-none _ _ _ c.loop-left-test.true c.in_err-place.ensures.value)

pub loop-left-preserved : goal.loop-left-preserved
loop-left-preserved c = (
  c.loop-left.invariant.0 ∙ ancestor-parent _ _ _ _ c.loop-left-test.true c.in_ok-place.ensures.value,
  omega (
    arith,
    c.in_ok-place.ensures.within,
    c.loop-left.invariant.1,
  ),
)

pub returns-clause-value : goal.returns-clause-value
returns-clause-value c = sym (c.loop-left.invariant.0 ∙ ancestor-zero _ _ _ c.loop-left-test.false)
