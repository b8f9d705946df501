use Rattle.std.proofs.Common.{sym, ◌∙◌, arith}
use Rattle.bf_names.proofs.Leaping.{leapt}
use Rattle.bf_names.proofs.Walking.{ancestor-zero}
use Rattle.bf_names.proofs.leap.Leaps.ancestor.Goals as goal

pub returns-in_err-leap-clause-value : goal.returns-in_err-leap-clause-value
returns-in_err-leap-clause-value c = c.from_residual.ensures ∙ sym (c.loop-left.invariant.leads ∙ c.in_err-leap.ensures.none)

pub loop-left-preserved : goal.loop-left-preserved
loop-left-preserved c = record {
  leads = c.loop-left.invariant.leads ∙ leapt _ _ _ _ c.in_ok-leap.ensures.leap c.in_ok-leap.ensures.most;
  within = omega (arith, c.in_ok-leap.ensures.leap.earlier, c.loop-left.invariant.within);
}

pub returns-clause-value : goal.returns-clause-value
returns-clause-value c = sym (c.loop-left.invariant.leads ∙ ancestor-zero _ _ _ c.loop-left-test.false)
