use Rattle.std.proofs.Common.{ℕ, ◌+◌, List, ap, sym, ◌∙◌, arith}
use Rattle.bf_choice.specs.BlockRows.{is_apart}
use Rattle.bf_choice.specs.Sizes.{parentage_of}
use Rattle.bf_choice.proofs.SharedNumbers.{apart_below-zero, apart_below-yes, apart_below-no, apart_below-le}
use Rattle.bf_choice.proofs.sharing.rows_needed.Goals as goal
use Rattle.bf_choice.proofs.sharing.rows_needed.Goals.{then-is_apart, else-is_apart}

pub loop-place-init : goal.loop-place-init
loop-place-init c = sym (apart_below-zero c.args.graph.now)

pub overflow_add-apart : goal.overflow_add-apart
overflow_add-apart c = omega (arith, c.loop-place.invariant, apart_below-le c.args.graph.now c.loop-place.place)

pub loop-place-preserved : goal.loop-place-preserved
loop-place-preserved c = elim c.if-is_apart.branch [
  | then-is_apart w ↦ w.apart-is ∙ ap (λ (n : ℕ). n + 1) c.loop-place.invariant
      ∙ sym (apart_below-yes c.args.graph.now c.loop-place.place (ap (λ (ps : List ℕ). is_apart (parentage_of ps)) (sym c.parents.ensures.parents) ∙ sym c.is_apart.ensures ∙ w.if-is_apart.true))
  | else-is_apart w ↦ w.apart-is ∙ c.loop-place.invariant
      ∙ sym (apart_below-no c.args.graph.now c.loop-place.place (ap (λ (ps : List ℕ). is_apart (parentage_of ps)) (sym c.parents.ensures.parents) ∙ sym c.is_apart.ensures ∙ w.if-is_apart.false))
]
