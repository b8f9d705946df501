use Rattle.std.proofs.Common.{◌≡◌, ℕ, ◌+◌, ◌<◌, List, [], ◌∷◌, ◌++◌, get_or, take, length, ap, sym, ◌∙◌, arith}
use Rattle.std.proofs.lemmas.List.{take_more}
use Rattle.bf_choice.specs.Numbering.{number_of, numbers_of}
use Rattle.bf_choice.proofs.Numbered.{length-candidate_numbers, candidate_numbers-at, numbers_of-push_yes, numbers_of-push_no}
use Rattle.bf_choice.proofs.numbering.number_parents.Goals as goal
use Rattle.bf_choice.proofs.numbering.number_parents.Goals.{then-get+in_ok-push, else-get}

pub bounds-numbers-parent : goal.bounds-numbers-parent
bounds-numbers-parent c =
    let within : get_or c.args.parents.now c.loop-parent.parent-index 0 < length c.args.mask.now = c.requires.parents c.loop-parent.parent-index 0
    c.loop-parent-test.true in
    let long : length c.args.numbers.now ≡ length c.args.mask.now = ap (λ (ns : List ℕ). length ns) c.requires.numbers ∙ length-candidate_numbers
    c.args.mask.now in
    omega arith

pub loop-parent-preserved : goal.loop-parent-preserved
loop-parent-preserved c =
    let done : List ℕ = take c.loop-parent.parent-index c.args.parents.now in
    let parent : ℕ = get_or c.args.parents.now c.loop-parent.parent-index 0 in
    let within : parent < length c.args.mask.now = c.requires.parents c.loop-parent.parent-index 0 c.loop-parent-test.true in
    let number : get_or c.args.numbers.now parent 0 ≡ number_of c.args.mask.now parent = ap (λ (ns : List ℕ). get_or ns parent 0) c.requires.numbers ∙
    candidate_numbers-at c.args.mask.now parent within in
    let more : take (c.loop-parent.parent-index + 1) c.args.parents.now ≡ done ++ parent ∷ [] = take_more c.args.parents.now c.loop-parent.parent-index 0
    c.loop-parent-test.true in
    elim c.if-get.branch [
      | then-get+in_ok-push w ↦
          rw w.into-is
          (w.in_ok-push.ensures.items
          ∙ ap (λ (ns : List ℕ). ns ++ get_or c.args.numbers.now parent 0 ∷ []) c.loop-parent.invariant
          ∙ ap (λ (n : ℕ). numbers_of c.args.mask.now done ++ n ∷ []) number
          ∙ sym (numbers_of-push_yes c.args.mask.now done parent (sym c.get.ensures ∙ w.if-get.true))
          ∙ ap (numbers_of c.args.mask.now) (sym more))
      | else-get w ↦
          rw w.into-is
          (c.loop-parent.invariant
          ∙ sym (numbers_of-push_no c.args.mask.now done parent (sym c.get.ensures ∙ w.if-get.false))
          ∙ ap (numbers_of c.args.mask.now) (sym more))
    ]
