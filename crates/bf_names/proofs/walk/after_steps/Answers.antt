use Rattle.std.proofs.Common.{◌<◌, length, sym, ◌∙◌}
use Rattle.std.proofs.lemmas.Option.{MatchOption-at_some}
use Rattle.bf_names.proofs.Walking.{after_steps-none, after_steps-next, after_steps-all}
use Rattle.bf_names.proofs.walk.after_steps.Goals as goal

pub returns-in_err-place-clause-value : goal.returns-in_err-place-clause-value
returns-in_err-place-clause-value c =
    after_steps-none _ _ _ _ _ _ _ _ c.loop-step-test.true c.after_step.ensures.value c.in_err-place.ensures.value c.from_residual.ensures.1
    ∙ sym c.loop-step.invariant.0

pub loop-step-preserved : goal.loop-step-preserved
loop-step-preserved c = (
  c.loop-step.invariant.0
      ∙ after_steps-next _ _ _ _ _ _ c.loop-step-test.true (sym c.in_ok-place.ensures.ok_part ∙ c.after_step.ensures.value),
  MatchOption-at_some _ (λ place. place < length c.args.graph.now) c.in_ok-place.place c.in_ok-place.ensures.ok_part c.after_step.ensures.within,
)

pub returns-clause-value : goal.returns-clause-value
returns-clause-value c = sym (c.loop-step.invariant.0 ∙ after_steps-all _ _ _ _ c.loop-step-test.false)
