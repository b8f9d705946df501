use Rattle.std.proofs.Common.{ℕ, List, length, Ok, ap, ◌∙◌}
use Rattle.bf_names.specs.Names.{between, right_steps, steps_of}
use Rattle.bf_names.proofs.Naming.{means_exit, means_then}
use Rattle.bf_names.proofs.Ranging.{forms_good, from_forms, from_left, from_steps, left_found, row_found, side_refused, to_row}
use Rattle.bf_names.proofs.range.between.Goals as goal

pub returns-in_err-before-clause-value : goal.returns-in_err-before-clause-value
unfolding between
returns-in_err-before-clause-value c =
    means_exit c.from_residual.result c.in_err-before.field-0.0 (steps_of c.args.left.now) (from_steps c.args.history.now c.args.left.now
    c.args.right.now) c.from_residual.ensures.1 c.in_err-before.ensures.refused

pub returns-in_err-after-clause-value : goal.returns-in_err-after-clause-value
unfolding between
returns-in_err-after-clause-value c =
    means_then c.from_residual-in_err-after.result (steps_of c.args.left.now) (from_steps c.args.history.now c.args.left.now
    c.args.right.now) c.in_ok-before.before.items c.in_ok-before.ensures.ok
    (means_exit c.from_residual-in_err-after.result c.in_err-after.field-0.0 (right_steps c.args.right.now) (from_forms c.args.history.now
    c.args.left.now c.args.right.now c.in_ok-before.before.items)
    c.from_residual-in_err-after.ensures.1 c.in_err-after.ensures.refused)

pub returns-in_err-from-clause-value : goal.returns-in_err-from-clause-value
returns-in_err-from-clause-value c =
    forms_good c.from_residual-in_err-from.result c.args.history.now c.args.left.now c.args.right.now c.in_ok-before.before.items
    c.in_ok-after.after.items c.in_ok-before.ensures.ok c.in_ok-after.ensures.ok
    (side_refused c.from_residual-in_err-from.result c.args.history.now c.args.left.now c.in_ok-before.before.items c.as_slice.result.now
    c.in_err-from.field-0.0 (from_left c.args.history.now c.args.right.now c.in_ok-after.after.items)
    c.as_slice.ensures.value c.from_residual-in_err-from.ensures.1 c.in_err-from.ensures.value)

pub returns-in_err-to-clause-value : goal.returns-in_err-to-clause-value
returns-in_err-to-clause-value c =
    forms_good c.from_residual-in_err-to.result c.args.history.now c.args.left.now c.args.right.now c.in_ok-before.before.items
    c.in_ok-after.after.items c.in_ok-before.ensures.ok c.in_ok-after.ensures.ok
    (left_found c.from_residual-in_err-to.result c.args.history.now c.args.left.now c.args.right.now c.in_ok-before.before.items
    c.in_ok-after.after.items c.as_slice.result.now c.in_ok-from.from c.as_slice.ensures.value c.in_ok-from.ensures.value
    (side_refused c.from_residual-in_err-to.result c.args.history.now c.args.right.now c.in_ok-after.after.items c.as_slice-2.result.now
    c.in_err-to.field-0.0 (to_row c.args.history.now c.in_ok-from.from)
    c.as_slice-2.ensures.value c.from_residual-in_err-to.ensures.1 c.in_err-to.ensures.value))

pub returns-clause-value : goal.returns-clause-value
returns-clause-value c =
    let row = c.in_ok-row_between.field-0 in
    forms_good (Ok row) c.args.history.now c.args.left.now c.args.right.now c.in_ok-before.before.items c.in_ok-after.after.items
    c.in_ok-before.ensures.ok c.in_ok-after.ensures.ok
    (left_found (Ok row) c.args.history.now c.args.left.now c.args.right.now c.in_ok-before.before.items c.in_ok-after.after.items
    c.as_slice.result.now c.in_ok-from.from c.as_slice.ensures.value c.in_ok-from.ensures.value
    (row_found c.args.history.now c.args.right.now c.in_ok-after.after.items c.as_slice-2.result.now c.args.reach.now c.in_ok-from.from
    c.in_ok-to.to row c.as_slice-2.ensures.value c.in_ok-to.ensures.value c.requires
    c.in_ok-row_between.ensures.value))

pub returns-clause-within : goal.returns-clause-within
returns-clause-within c = c.in_ok-row_between.ensures.len ∙ ap (λ (graph : List (List ℕ)). length graph) c.requires
