use Rattle.std.proofs.Common.{ap, subst, ◌∙◌}
use Rattle.bf_names.specs.Names.{Means, between, name}
use Rattle.bf_names.proofs.Naming.{means_exit}
use Rattle.bf_names.proofs.Ranging.{alone, alone_found, range-dots, range-name}
use Rattle.bf_names.proofs.range.resolve_range.Goals as goal

pub returns-in_err-place-in-None-clause-value : goal.returns-in_err-place-in-None-clause-value
returns-in_err-place-in-None-clause-value c =
    subst (Means c.from_residual.result) (range-name c.args.history.now c.args.text.now c.in-None.ensures.value)
    (means_exit c.from_residual.result c.in_err-place-in-None.field-0.0 (name c.args.history.now c.args.text.now) (alone
    c.args.history.now) c.from_residual.ensures.1 c.in_err-place-in-None.ensures.value)

pub returns-in-Some-clause-value : goal.returns-in-Some-clause-value
returns-in-Some-clause-value c =
    subst (Means c.between.result)
    (ap (between c.args.history.now _) c.rest_of.ensures ∙ range-dots c.args.history.now c.args.text.now c.in-Some.at c.in-Some.ensures.value)
    c.between.ensures.value

pub returns-in_ok-row_of-in-None-clause-value : goal.returns-in_ok-row_of-in-None-clause-value
returns-in_ok-row_of-in-None-clause-value c =
    alone_found c.args.history.now c.args.text.now c.in_ok-place-in-None.place c.len.result c.in_ok-row_of-in-None.field-0
    c.in-None.ensures.value c.in_ok-place-in-None.ensures.value c.len.ensures.len
    c.in_ok-row_of-in-None.ensures.value

pub returns-in_ok-row_of-in-None-clause-within : goal.returns-in_ok-row_of-in-None-clause-within
returns-in_ok-row_of-in-None-clause-within c = c.in_ok-row_of-in-None.ensures.len ∙ c.len.ensures.len
