use Rattle.std.proofs.Common.{ℕ, ◌+◌, List, [], ◌∷◌, ◌++◌, map, ap, sym, ◌∙◌, arith}
use Rattle.std.proofs.lemmas.List.FromFn.{map-range_with_len_more}
use Rattle.std.specs.List.{range_with_len}
use Rattle.bf_choice.specs.Numbering.{number_of}
use Rattle.bf_choice.proofs.Numbered.{number_of-zero, number_of-yes, number_of-no, number_of-le, candidate_numbers-is}
use Rattle.bf_choice.proofs.numbering.candidate_numbers.Goals as goal
use Rattle.bf_choice.proofs.numbering.candidate_numbers.Goals.{then-get, else-get}

pub loop-place-init : goal.loop-place-init
loop-place-init c = (sym (number_of-zero c.args.mask.now), c.in_ok-numbers.ensures.items)

pub overflow_add-next : goal.overflow_add-next
overflow_add-next c = omega (arith, number_of-le c.args.mask.now c.loop-place.place, c.loop-place.invariant.0)

pub loop-place-preserved : goal.loop-place-preserved
loop-place-preserved c = (
  elim c.if-get.branch [
    | then-get w ↦ w.next-is ∙ ap (λ (n : ℕ). n + 1) c.loop-place.invariant.0 ∙ sym
        (number_of-yes c.args.mask.now c.loop-place.place (sym c.get.ensures ∙ w.if-get.true))
    | else-get w ↦ w.next-is ∙ c.loop-place.invariant.0 ∙ sym (number_of-no c.args.mask.now c.loop-place.place (sym c.get.ensures ∙ w.if-get.false))
  ],
  c.in_ok-push.ensures.items ∙ ap (λ (ns : List ℕ). ns ++ c.loop-place.next ∷ []) c.loop-place.invariant.1
      ∙ ap (λ (n : ℕ). map (number_of c.args.mask.now) (range_with_len 0 c.loop-place.place) ++ n ∷ []) c.loop-place.invariant.0
      ∙ sym (map-range_with_len_more (number_of c.args.mask.now) 0 c.loop-place.place c.loop-place.place (omega arith)),
)

pub returns : goal.returns
returns c = candidate_numbers-is c.args.mask.now c.loop-place.place c.loop-place.numbers.items (omega arith) c.loop-place.invariant.1
