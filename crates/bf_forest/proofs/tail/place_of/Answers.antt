use Rattle.std.proofs.Common.{◌≡◌, ◌+◌, ◌-◌, ◌/◌, ◌<◌, true, false, sym, ap, ◌∙◌, arith}
use Rattle.std.specs.Ordering.{nat_cmp, is_lt}
use Rattle.std.specs.Cmp.Lexicographic.{slice_cmp}
use Rattle.bf_forest.specs.Rests.{is_before_key}
use Rattle.bf_forest.proofs.Placed.{before_more, behind_more}
use Rattle.bf_forest.proofs.tail.place_of.Goals as goal

pub loop-low-preserved-then-is_below : goal.loop-low-preserved-then-is_below
loop-low-preserved-then-is_below c =
    let table = c.args.table.now in
    let numbers = c.args.numbers.now in
    let key = c.args.key.now in
    let middle = c.loop-low.low + (c.loop-low.high - c.loop-low.low) / 2 in
    let here : is_before_key table numbers key middle ≡ true = ap (λ v. is_lt (slice_cmp nat_cmp v key)) (sym c.key.ensures) ∙ sym c.is_below.ensures ∙
    c.if-is_below.true in
    let less : middle < c.loop-low.high = omega (arith, c.loop-low-test.true) in
    record {
      order = omega (arith, less);
      within = c.loop-low.invariant.within;
      before = λ k l. before_more table numbers key middle k c.requires.1 (omega (arith, less, c.loop-low.invariant.within)) here l;
      behind = c.loop-low.invariant.behind;
    }

pub loop-low-preserved : goal.loop-low-preserved
loop-low-preserved c =
    let table = c.args.table.now in
    let numbers = c.args.numbers.now in
    let key = c.args.key.now in
    let middle = c.loop-low.low + (c.loop-low.high - c.loop-low.low) / 2 in
    let here : is_before_key table numbers key middle ≡ false = ap (λ v. is_lt (slice_cmp nat_cmp v key)) (sym c.key.ensures) ∙ sym c.is_below.ensures ∙
    c.if-is_below.false in
    let less : middle < c.loop-low.high = omega (arith, c.loop-low-test.true) in
    record {
      order = omega arith;
      within = omega (arith, less, c.loop-low.invariant.within);
      before = c.loop-low.invariant.before;
      behind = λ k l m. behind_more table numbers key middle k c.requires.1 here l m;
    }
