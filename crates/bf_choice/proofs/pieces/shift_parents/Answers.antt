use Rattle.std.proofs.Common.{◌≡◌, ℕ, ◌+◌, ◌-◌, List, [], ◌∷◌, ◌++◌, get_or, take, ap, sym, ◌∙◌}
use Rattle.std.proofs.lemmas.List.{take_more}
use Rattle.bf_choice.specs.Pieces.{shifted}
use Rattle.bf_choice.proofs.Cutting.{shifted-push_yes, shifted-push_no}
use Rattle.bf_choice.proofs.pieces.shift_parents.Goals as goal
use Rattle.bf_choice.proofs.pieces.shift_parents.Goals.{then-base-parent+in_ok-push, else-base-parent}

pub loop-parent-preserved : goal.loop-parent-preserved
loop-parent-preserved c =
    let done : List ℕ = take c.loop-parent.parent-index c.args.parents.now in
    let parent : ℕ = get_or c.args.parents.now c.loop-parent.parent-index 0 in
    let more : take (c.loop-parent.parent-index + 1) c.args.parents.now ≡ done ++ parent ∷ [] = take_more c.args.parents.now c.loop-parent.parent-index 0
    c.loop-parent-test.true in
    elim c.if-base-parent.branch [
      | then-base-parent+in_ok-push w ↦
          rw w.into-is
          (w.in_ok-push.ensures.items
          ∙ ap (λ (ns : List ℕ). ns ++ (parent - c.args.base) ∷ []) c.loop-parent.invariant
          ∙ sym (shifted-push_yes c.args.base done parent w.if-base-parent.true)
          ∙ ap (shifted c.args.base) (sym more))
      | else-base-parent w ↦
          rw w.into-is
          (c.loop-parent.invariant
          ∙ sym (shifted-push_no c.args.base done parent w.if-base-parent.false)
          ∙ ap (shifted c.args.base) (sym more))
    ]
