use Rattle.std.proofs.Common.{length, ap, arith}
use Rattle.std.proofs.lemmas.List.Sums.{count_by-le-length}
use Rattle.bf_reach.proofs.RowSteps.{Shows, shown_length, shown_count}
use Rattle.bf_reach.proofs.row.Row.count.Goals as goal

pub count-requires : goal.count-requires
count-requires c = omega (arith, ap length c.as_slice.ensures.value, c.self.invariant.whole)

pub overflow_cast-result : goal.overflow_cast-result
overflow_cast-result c =
    let shown : Shows c.self.inside.len c.self.inside.words.items c.args.self.now = record { holds = c.self.invariant; view = c.self.view_is } in
    omega (
      arith,
      shown_count _ _ _ _ _ shown c.as_slice.ensures.value c.count.ensures.ones c.count.ensures.fits,
      shown_length _ _ _ shown,
      count_by-le-length
          (λ b. b) c.args.self.now,
    )

pub returns : goal.returns
returns c =
    let shown : Shows c.self.inside.len c.self.inside.words.items c.args.self.now = record { holds = c.self.invariant; view = c.self.view_is } in
    shown_count _ _ _ _ _ shown c.as_slice.ensures.value c.count.ensures.ones c.count.ensures.fits
