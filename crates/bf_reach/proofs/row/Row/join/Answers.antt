use Rattle.std.proofs.Common.{◌≡◌, ℕ, ◌<◌, ◌^◌, length, get_or, subst, sym, ap, ◌∙◌, arith}
use Rattle.std.specs.Simd.Lanes.{zip2}
use Rattle.std.proofs.lemmas.List.{with_items_is}
use Rattle.bf_reach.specs.Bits.{bits, Holds}
use Rattle.bf_reach.proofs.RowSteps.{Shows, shown_words, joined_row}
use Rattle.bf_reach.proofs.row.Row.join.Goals as goal

pub combine-requires : goal.combine-requires
combine-requires g c =
    let mine : Shows c.self.inside.len c.self.inside.words.items c.args.self.now = record { holds = c.self.invariant; view = c.self.view_is } in
    let theirs : Shows c.other.inside.len c.other.inside.words.items c.args.other.now = record { holds = c.other.invariant; view = c.other.view_is } in
    ap length c.as_mut_slice.ensures.value
    ∙ shown_words c.self.inside.len c.other.inside.len c.self.inside.words.items c.other.inside.words.items c.args.self.now c.args.other.now mine theirs
    c.requires
    ∙ sym (ap length c.as_slice.ensures.value)

pub invariant_of-self : goal.invariant_of-self
invariant_of-self g c =
    let f = g.O.BitOp.combine in
    let mine : Shows c.self.inside.len c.self.inside.words.items c.args.self.now = record { holds = c.self.invariant; view = c.self.view_is } in
    let theirs : Shows c.other.inside.len c.other.inside.words.items c.args.other.now = record { holds = c.other.invariant; view = c.other.view_is } in
    let fits : (i : ℕ) → get_or c.other.inside.words.items i 0 < 2 ^ 64 = λ i. subst (λ l. get_or l i 0 < 2 ^ 64) c.as_slice.ensures.value
    (c.combine.ensures.fits i) in
    let made : c.combine.new.into ≡ zip2 f c.self.inside.words.items c.other.inside.words.items = c.combine.ensures.joined ∙ ap
    (λ l. zip2 f l c.as_slice.result.now) c.as_mut_slice.ensures.value ∙ ap (zip2 f c.self.inside.words.items) c.as_slice.ensures.value in
    let now = joined_row f g.O.BitOp.choose c.self.inside.len c.other.inside.len c.self.inside.words.items c.other.inside.words.items c.combine.new.into
    c.args.self.now c.args.other.now g.met.O.BitOp.bitwise mine theirs c.requires fits made in
    subst (Holds c.self.inside.len) (sym (with_items_is c.self.inside.words c.combine.new.into
    (omega (arith, c.self.inside.words.ok.0, now.holds.whole, c.self.invariant.whole)))) now.holds

pub returns : goal.returns
returns g c =
    let f = g.O.BitOp.combine in
    let mine : Shows c.self.inside.len c.self.inside.words.items c.args.self.now = record { holds = c.self.invariant; view = c.self.view_is } in
    let theirs : Shows c.other.inside.len c.other.inside.words.items c.args.other.now = record { holds = c.other.invariant; view = c.other.view_is } in
    let fits : (i : ℕ) → get_or c.other.inside.words.items i 0 < 2 ^ 64 = λ i. subst (λ l. get_or l i 0 < 2 ^ 64) c.as_slice.ensures.value
    (c.combine.ensures.fits i) in
    let made : c.combine.new.into ≡ zip2 f c.self.inside.words.items c.other.inside.words.items = c.combine.ensures.joined ∙ ap
    (λ l. zip2 f l c.as_slice.result.now) c.as_mut_slice.ensures.value ∙ ap (zip2 f c.self.inside.words.items) c.as_slice.ensures.value in
    let now = joined_row f g.O.BitOp.choose c.self.inside.len c.other.inside.len c.self.inside.words.items c.other.inside.words.items c.combine.new.into
    c.args.self.now c.args.other.now g.met.O.BitOp.bitwise mine theirs c.requires fits made in
    ap (bits c.self.inside.len) (with_items_is c.self.inside.words c.combine.new.into
    (omega (arith, c.self.inside.words.ok.0, now.holds.whole, c.self.invariant.whole))) ∙ now.view
