use Rattle.std.proofs.Common.{ℕ, List, [], ◌∷◌, ◌++◌, map, ap, sym, ◌∙◌, arith}
use Rattle.std.proofs.lemmas.List.FromFn.{map-range_with_len_more}
use Rattle.std.specs.List.{range_with_len}
use Rattle.bf_choice.specs.Numbering.{size_of_number}
use Rattle.bf_choice.proofs.weighing.by_place.Goals as goal

pub loop-place-preserved : goal.loop-place-preserved
loop-place-preserved c =
    c.in_ok-push.ensures.items ∙ ap (λ (ws : List ℕ). ws ++ c.weight_at.result ∷ []) c.loop-place.invariant
    ∙ ap (λ (w : ℕ). map (size_of_number c.args.mask.now c.args.sizes.now) (range_with_len 0 c.loop-place.place) ++ w ∷ []) c.weight_at.ensures
    ∙ sym (map-range_with_len_more (size_of_number c.args.mask.now c.args.sizes.now) 0 c.loop-place.place c.loop-place.place (omega arith))
