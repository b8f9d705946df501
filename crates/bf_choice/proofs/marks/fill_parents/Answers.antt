use Rattle.std.proofs.Common.{◌<◌, length, get_or, sym, ◌∙◌, arith}
use Rattle.std.specs.List.{All}
use Rattle.bf_choice.proofs.ParentRows.{IsParentsBelow-skip, IsParentsBelow-more}
use Rattle.bf_choice.proofs.marks.fill_parents.Goals as goal
use Rattle.bf_choice.proofs.marks.fill_parents.Goals.{then-get, else-get}

pub loop-place-preserved : goal.loop-place-preserved
loop-place-preserved c =
    elim c.if-get.branch [
      | then-get w ↦ (
          let within : All (λ p. p < length c.loop-place.out) w.parents.result.now = λ k d l. let below : get_or w.parents.result.now k d < c.loop-place.place =
          w.parents.ensures.earlier k d l in omega (arith, c.loop-place.invariant.same_length) in
          rw (w.out-is, w.mark_all.ensures) (IsParentsBelow-more w.parents.result.now w.parents.ensures.parents (sym c.get.ensures ∙ w.if-get.true) within
          c.loop-place.invariant)
          )
      | else-get w ↦ rw w.out-is (IsParentsBelow-skip (sym c.get.ensures ∙ w.if-get.false) c.loop-place.invariant)
    ]
