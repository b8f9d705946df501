use Rattle.std.proofs.Common.{◌≡◌, ◌∙◌, ℕ, ◌*◌, ◌^◌, ◌<◌, length, get_or, sym, ap, subst, arith, bit_or}
use Rattle.std.specs.Simd.Lanes.{zip2, chunk, put_chunk}
use Rattle.std.proofs.lemmas.List.{with_items_is}
use Rattle.bf_reach.specs.Blocks.{block_rows}
use Rattle.bf_reach.proofs.BlockSteps.{length-block_rows, row_joined}
use Rattle.bf_reach.proofs.blocks.Blocks.or_row.Goals as goal

pub or_vector-requires-clause-into_room : goal.or_vector-requires-clause-into_room
or_vector-requires-clause-into_room c =
    let number : c.self.inside.rows ≡ length c.args.self.now = sym (length-block_rows c.self.inside.rows c.self.inside.words.items) ∙ ap length
    c.self.view_is in
    omega (arith, ap length c.as_mut_slice.ensures.value, c.self.invariant.1)

pub or_vector-requires-clause-from_room : goal.or_vector-requires-clause-from_room
or_vector-requires-clause-from_room c =
    let number : c.self.inside.rows ≡ length c.args.self.now = sym (length-block_rows c.self.inside.rows c.self.inside.words.items) ∙ ap length
    c.self.view_is in
    omega (arith, ap length c.as_mut_slice.ensures.value, c.self.invariant.1)

pub returns : goal.returns
returns c =
    let rows = c.self.inside.rows in
    let words = c.self.inside.words.items in
    let number : rows ≡ length c.args.self.now = sym (length-block_rows rows words) ∙ ap length c.self.view_is in
    let made = c.or_vector.ensures.joined ∙ ap (λ l. put_chunk (8 * c.args.into) l (zip2 bit_or (chunk (8 * c.args.into) 8 l) (chunk (8 * c.args.from) 8 l)))
    c.as_mut_slice.ensures.value in
    let fits : (i : ℕ) → get_or words i 0 < 2 ^ 64 = λ i. subst (λ l. get_or l i 0 < 2 ^ 64) c.as_mut_slice.ensures.value (c.or_vector.ensures.fits i) in
    ap (block_rows rows) (with_items_is c.self.inside.words c.or_vector.new.words
    (c.or_vector.auto.words ∙ ap length c.as_mut_slice.ensures.value ∙ sym c.self.inside.words.ok.0))
    ∙ row_joined rows words c.or_vector.new.words c.args.self.now c.args.into c.args.from c.self.view_is c.self.invariant.1 (omega arith) (omega arith) fits
    made
