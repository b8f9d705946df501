use Rattle.std.proofs.Common.{◌≡◌, ◌∙◌, length, sym, ap, arith}
use Rattle.std.proofs.lemmas.List.{with_items_is}
use Rattle.bf_reach.specs.Bits.{has_bit}
use Rattle.bf_reach.specs.Blocks.{block_rows}
use Rattle.bf_reach.proofs.BlockSteps.{length-block_rows, place_set}
use Rattle.bf_reach.proofs.blocks.Blocks.set.Goals as goal

pub set-requires : goal.set-requires
set-requires c =
    let number : c.self.inside.rows ≡ length c.args.self.now = sym (length-block_rows c.self.inside.rows c.self.inside.words.items) ∙ ap length
    c.self.view_is in
    omega (arith, ap length c.as_mut_slice.ensures.value, c.self.invariant.1)

pub returns : goal.returns
returns c =
    let rows = c.self.inside.rows in
    let number : rows ≡ length c.args.self.now = sym (length-block_rows rows c.self.inside.words.items) ∙ ap length c.self.view_is in
    ap (block_rows rows) (with_items_is c.self.inside.words c.set.new.words
    (c.set.auto.words ∙ ap length c.as_mut_slice.ensures.value ∙ sym c.self.inside.words.ok.0))
    ∙ place_set rows c.self.inside.words.items c.set.new.words c.args.self.now c.args.row c.args.column c.self.view_is (omega arith) c.requires.column_in
    c.set.ensures.same
    (λ k other. c.set.ensures.others k other ∙ ap (λ l. has_bit l k) c.as_mut_slice.ensures.value)
