use Rattle.std.proofs.Common.{ℕ, Some, None, Result, sym, ◌∙◌, ap, subst}
use Rattle.std.specs.Option.{ok_or}
use Rattle.bf_names.specs.declared.fault.NameFault.{NameFault}
use Rattle.bf_names.specs.declared.fault.NameFault.TheVariants.{Unknown}
use Rattle.bf_names.specs.Names.{Means, first_set, meanings}
use Rattle.bf_names.proofs.Naming.{means_same, place_of_base-name, place_of_base-ref, first_set-within}
use Rattle.bf_names.proofs.base.place_of_base.Goals as goal

pub returns-in-Some-clause-value : goal.returns-in-Some-clause-value
returns-in-Some-clause-value c =
    means_same c.ok_or.result _
    (c.ok_or.ensures.value ∙ ap (λ o. ok_or o Unknown) c.place_named.ensures.value
    ∙ sym (place_of_base-name _ _ _ _ c.spelled_out-base.ensures c.in-Some.ensures.value))

pub returns-in-Some-2-clause-value : goal.returns-in-Some-2-clause-value
returns-in-Some-2-clause-value c =
    place_of_base-ref _ _ _ (Some c.in-Some-2.place) c.spelled_out-base.ensures c.in_default.ensures.value
    (sym c.in-Some-2.is ∙ c.in_ok-place.ensures ∙ ap (λ refs. first_set refs (meanings c.spelled_out-base.result.now)) c.refs.ensures.value)

pub returns-in-Some-2-clause-within : goal.returns-in-Some-2-clause-within
returns-in-Some-2-clause-within c =
    first_set-within _ _ c.spelled_out-base.result.now _ c.refs.ensures.places (sym c.in-Some-2.is ∙ c.in_ok-place.ensures)

pub returns-in-None-clause-value : goal.returns-in-None-clause-value
returns-in-None-clause-value c =
    subst (λ (meant : Result ℕ NameFault). Means c.place_by_digits.result meant)
    (sym (place_of_base-ref _ _ _ None c.spelled_out-base.ensures c.in_default.ensures.value
    (sym c.in-None.is ∙ c.in_ok-place.ensures ∙ ap (λ refs. first_set refs (meanings c.spelled_out-base.result.now)) c.refs.ensures.value)))
    c.place_by_digits.ensures.value
