use Rattle.std.proofs.Common.{◌≡◌, length, subst, sym, ap, ◌∙◌, arith}
use Rattle.std.proofs.lemmas.List.{with_items_is}
use Rattle.bf_reach.specs.Bits.{has_bit, bits, Holds}
use Rattle.bf_reach.proofs.RowSteps.{Shows, shown_length, set_row}
use Rattle.bf_reach.proofs.row.Row.set.Goals as goal

pub set-requires : goal.set-requires
set-requires c =
    let shown : Shows c.self.inside.len c.self.inside.words.items c.args.self.now = record { holds = c.self.invariant; view = c.self.view_is } in
    omega (arith, ap length c.as_mut_slice.ensures.value, c.self.invariant.whole, shown_length _ _ _ shown)

pub invariant_of-self : goal.invariant_of-self
invariant_of-self c =
    let shown : Shows c.self.inside.len c.self.inside.words.items c.args.self.now = record { holds = c.self.invariant; view = c.self.view_is } in
    let long : length c.set.new.words ≡ length c.self.inside.words.items = c.set.auto.words ∙ ap length c.as_mut_slice.ensures.value in
    let now = set_row c.self.inside.len c.self.inside.words.items c.set.new.words c.args.self.now c.args.p c.args.value shown c.requires long c.set.ensures.same
    (λ k other. c.set.ensures.others k other ∙ ap (λ l. has_bit l k) c.as_mut_slice.ensures.value) in
    subst (Holds c.self.inside.len) (sym (with_items_is c.self.inside.words c.set.new.words (long ∙ sym c.self.inside.words.ok.0))) now.holds

pub returns : goal.returns
returns c =
    let shown : Shows c.self.inside.len c.self.inside.words.items c.args.self.now = record { holds = c.self.invariant; view = c.self.view_is } in
    let long : length c.set.new.words ≡ length c.self.inside.words.items = c.set.auto.words ∙ ap length c.as_mut_slice.ensures.value in
    let now = set_row c.self.inside.len c.self.inside.words.items c.set.new.words c.args.self.now c.args.p c.args.value shown c.requires long c.set.ensures.same
    (λ k other. c.set.ensures.others k other ∙ ap (λ l. has_bit l k) c.as_mut_slice.ensures.value) in
    ap (bits c.self.inside.len) (with_items_is c.self.inside.words c.set.new.words (long ∙ sym c.self.inside.words.ok.0)) ∙ now.view
