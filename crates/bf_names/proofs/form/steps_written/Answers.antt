use Rattle.std.proofs.Common.{sym, ◌∙◌, ap}
use Rattle.bf_names.proofs.Forming.{resumed-sign, resumed-other, resumed-end, resumed-none}
use Rattle.bf_names.proofs.form.steps_written.Goals as goal
use Rattle.bf_names.proofs.form.steps_written.Goals.{then-is_sign+in_ok-step+in_ok-push, else-is_sign}

pub returns-in_err-step-clause-refused : goal.returns-in_err-step-clause-refused
returns-in_err-step-clause-refused c =
    resumed-none c.from_residual.result _ c.loop-at.steps.items c.args.text.now _ c.loop-at.at _ _ c.loop-at-test.true (sym
    c.is_sign.ensures ∙ c.if-is_sign.true)
    c.rest_of.ensures c.before_sign-rest.ensures c.step_of.ensures c.in_err-step.ensures.value c.from_residual.ensures.1 c.loop-at.invariant

pub loop-at-preserved : goal.loop-at-preserved
loop-at-preserved c =
    c.loop-at.invariant
    ∙ elim c.if-is_sign.branch [
      | then-is_sign+in_ok-step+in_ok-push w ↦
          resumed-sign _ _ _ _ _ _ _ _ c.loop-at-test.true (sym c.is_sign.ensures
          ∙ w.if-is_sign.true) w.rest_of.ensures w.before_sign-rest.ensures w.step_of.ensures
          w.in_ok-step.ensures.ok_part (ap (λ v. v.items) w.steps-is ∙ w.in_ok-push.ensures.items)
      | else-is_sign w ↦
          resumed-other _ _ _ _ c.loop-at-test.true (sym c.is_sign.ensures ∙ w.if-is_sign.false) (ap (λ v. v.items) w.steps-is)
    ]

pub returns-clause-ok : goal.returns-clause-ok
returns-clause-ok c = resumed-end c.loop-at.steps.items c.args.text.now c.loop-at.at c.loop-at-test.false c.loop-at.invariant
