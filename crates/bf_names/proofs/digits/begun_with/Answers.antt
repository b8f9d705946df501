use Rattle.std.proofs.Common.{sym, ◌∙◌, arith}
use Rattle.bf_names.proofs.Abbreviating.{seen_none, seen_other, seen_begun, seen_all}
use Rattle.bf_names.proofs.digits.begun_with.Goals as goal
use Rattle.bf_names.proofs.digits.begun_with.Goals.{then-begins_with, else-begins_with}

pub loop-place-init : goal.loop-place-init
loop-place-init c = (seen_none _ _, omega arith)

pub loop-place-preserved : goal.loop-place-preserved
loop-place-preserved c =
    elim c.if-begins_with.branch [
      | then-begins_with w ↦ (
        seen_begun _ _ _ _ _ _ _ _ (omega (arith, c.requires.len, c.loop-place-test.true)) (sym c.begins_with.ensures
            ∙ w.if-begins_with.true) w.found-is w.count-is c.loop-place.invariant.0,
        omega (arith, c.loop-place.invariant.1),
      )
      | else-begins_with w ↦ (
        seen_other _ _ _ _ _ _ _ _ (omega (arith, c.requires.len, c.loop-place-test.true)) (sym c.begins_with.ensures
            ∙ w.if-begins_with.false) w.found-is w.count-is c.loop-place.invariant.0,
        omega (arith, c.loop-place.invariant.1),
      )
    ]

pub returns : goal.returns
returns c = seen_all _ _ _ _ _ (omega (arith, c.requires.len, c.loop-place-test.false, c.loop-place.auto.place-end)) c.loop-place.invariant.0
