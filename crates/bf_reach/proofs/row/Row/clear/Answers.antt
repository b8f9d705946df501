use Rattle.std.proofs.Common.{◌≡◌, ◌∙◌, length, replicate, false, sym, ap, subst, arith}
use Rattle.std.proofs.lemmas.List.{with_items_is}
use Rattle.bf_reach.specs.Bits.{bits, Holds}
use Rattle.bf_reach.proofs.RowSteps.{Shows, shown_length, clear_row}
use Rattle.bf_reach.proofs.row.Row.clear.Goals as goal

pub invariant_of-self : goal.invariant_of-self
invariant_of-self c =
    let long : length c.as_mut_slice.result.now ≡ length c.self.inside.words.items = ap length c.as_mut_slice.ensures.value in
    let now = clear_row c.self.inside.len (length c.as_mut_slice.result.now) c.fill.new.self c.self.invariant.short (long ∙ c.self.invariant.whole)
    (c.fill.ensures.after (λ y e. e)) in
    subst (Holds c.self.inside.len) (sym (with_items_is c.self.inside.words c.fill.new.self
    (omega (arith, c.fill.ensures.len, long, c.self.inside.words.ok.0)))) now.holds

pub returns : goal.returns
returns c =
    let shown : Shows c.self.inside.len c.self.inside.words.items c.args.self.now = record { holds = c.self.invariant; view = c.self.view_is } in
    let long : length c.as_mut_slice.result.now ≡ length c.self.inside.words.items = ap length c.as_mut_slice.ensures.value in
    let now = clear_row c.self.inside.len (length c.as_mut_slice.result.now) c.fill.new.self c.self.invariant.short (long ∙ c.self.invariant.whole)
    (c.fill.ensures.after (λ y e. e)) in
    ap (bits c.self.inside.len) (with_items_is c.self.inside.words c.fill.new.self (omega (arith, c.fill.ensures.len, long, c.self.inside.words.ok.0)))
    ∙ now.view ∙ ap (λ n. replicate n false) (shown_length _ _ _ shown)
