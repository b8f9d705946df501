use Rattle.std.proofs.Common.{subst}
use Rattle.bf_names.specs.Names.{Means, name, place_of, steps_of}
use Rattle.bf_names.proofs.Naming.{means_exit, means_then}
use Rattle.bf_names.proofs.name.resolve_by.Goals as goal

pub returns-in_err-steps-clause-value : goal.returns-in_err-steps-clause-value
unfolding name
returns-in_err-steps-clause-value c =
    means_exit c.from_residual.result c.in_err-steps.field-0.0 (steps_of c.args.text.now) (place_of c.args.history.now c.args.text.now)
    c.from_residual.ensures.1 c.in_err-steps.ensures.refused

pub returns-clause-value : goal.returns-clause-value
unfolding name
returns-clause-value c =
    means_then c.place_of.result (steps_of c.args.text.now) (place_of c.args.history.now c.args.text.now) c.in_ok-steps.steps.items
    c.in_ok-steps.ensures.ok
    (subst (λ steps. Means c.place_of.result (place_of c.args.history.now c.args.text.now steps)) c.as_slice.ensures.value c.place_of.ensures.value)
