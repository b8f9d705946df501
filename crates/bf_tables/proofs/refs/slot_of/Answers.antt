use Rattle.std.proofs.Common.{◌≡◌, true, length, take, slice_get, Some, is_some, refl, sym, ap, ◌∙◌, add-one, arith}
use Rattle.std.proofs.lemmas.Option.{slice_get_read}
use Rattle.bf_tables.specs.Slots.{filled}
use Rattle.bf_tables.proofs.Numbered.{count_more, index_of_slot, full_slot, one_in, none_in}
use Rattle.bf_tables.proofs.refs.slot_of.Goals as goal
use Rattle.bf_tables.proofs.refs.slot_of.Goals.{then-is_some+else-left-eq0, else-is_some}

pub returns-then-left-eq0 : goal.returns-then-left-eq0
returns-then-left-eq0 c =
    let slots = c.args.slots.now in
    let number = c.loop-number.number in
    let slot = c.index-slots-number.result in
    let at = slice_get_read slots (length slots) number slot refl c.loop-number-test.true c.index-slots-number.is in
    let some : is_some slot ≡ true = sym c.is_some.ensures ∙ c.if-is_some.true in
    let full = full_slot slot some in
    let there : slice_get slots number ≡ Some (Some full.0) = at ∙ ap (λ v. Some v) full.1 in
    let index : length (filled (take number slots)) ≡ c.args.index = omega (arith, c.loop-number.invariant, c.if-left-eq0.true) in
    there ∙ ap (λ v. Some v) (sym (index_of_slot slots number full.0 there) ∙ ap (slice_get (filled slots)) index)

pub loop-number-preserved : goal.loop-number-preserved
loop-number-preserved c =
    let slots = c.args.slots.now in
    let number = c.loop-number.number in
    let slot = c.index-slots-number.result in
    let at = slice_get_read slots (length slots) number slot refl c.loop-number-test.true c.index-slots-number.is in
    let more = ap (λ n. length (filled (take n slots))) (add-one number) ∙ count_more slots number slot at in
    elim c.if-is_some.branch [
      | then-is_some+else-left-eq0 w ↦
          let one = one_in slot (sym c.is_some.ensures ∙ w.if-is_some.true) in
          omega (arith, more, one, w.left-is, w.if-left-eq0.false, c.loop-number.invariant)
      | else-is_some w ↦
          let none = none_in slot (sym c.is_some.ensures ∙ w.if-is_some.false) in
          omega (arith, more, none, w.left-is, c.loop-number.invariant)
    ]
