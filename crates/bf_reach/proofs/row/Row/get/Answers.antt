use Rattle.std.proofs.Common.{length, sym, ap, ◌∙◌, arith}
use Rattle.bf_reach.specs.Bits.{has_bit}
use Rattle.bf_reach.proofs.RowSteps.{Shows, shown_length, shown_value}
use Rattle.bf_reach.proofs.row.Row.get.Goals as goal

pub get-requires : goal.get-requires
get-requires c =
    let shown : Shows c.self.inside.len c.self.inside.words.items c.args.self.now = record { holds = c.self.invariant; view = c.self.view_is } in
    omega (arith, ap length c.as_slice.ensures.value, c.self.invariant.whole, shown_length _ _ _ shown)

pub returns : goal.returns
returns c =
    let shown : Shows c.self.inside.len c.self.inside.words.items c.args.self.now = record { holds = c.self.invariant; view = c.self.view_is } in
    c.get.ensures ∙ ap (λ l. has_bit l c.args.p) c.as_slice.ensures.value ∙ sym (shown_value _ _ _ c.args.p shown)
