use Rattle.std.proofs.Common.{ℕ, List, [], ◌∷◌, ◌++◌, map, ap, sym, ◌∙◌, arith}
use Rattle.std.proofs.lemmas.List.FromFn.{map-range_with_len_more}
use Rattle.std.specs.List.{range_with_len}
use Rattle.bf_choice.specs.Plain.{weight_in}
use Rattle.bf_choice.proofs.Weighed.{weights-is}
use Rattle.bf_choice.proofs.plain.weights_plain.Goals as goal

pub loop-place-preserved : goal.loop-place-preserved
loop-place-preserved c = (
  c.weight_of.ensures.reached,
  c.in_ok-push.ensures.items ∙ ap (λ (ws : List ℕ). ws ++ c.weight_of.result ∷ []) c.loop-place.invariant.1
      ∙ ap (λ (w : ℕ). map (weight_in c.args.reach.now c.args.mask.now c.args.first_parent) (range_with_len 0 c.loop-place.place) ++ w ∷ [])
      c.weight_of.ensures.weight
      ∙ sym (map-range_with_len_more (weight_in c.args.reach.now c.args.mask.now c.args.first_parent) 0 c.loop-place.place c.loop-place.place (omega arith)),
)

pub returns : goal.returns
returns c = c.loop-place.invariant.1 ∙ weights-is c.args.reach.now c.args.mask.now c.args.first_parent c.loop-place.place (omega arith)
