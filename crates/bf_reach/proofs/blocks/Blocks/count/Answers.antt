use Rattle.std.proofs.Common.{◌≡◌, ◌∙◌, ℕ, ◌+◌, ◌*◌, ◌^◌, ◌<◌, ◌≤◌, length, get_or, sym, ap, subst, arith, count_ones}
use Rattle.std.specs.List.{sum_by}
use Rattle.std.specs.Simd.Lanes.{chunk}
use Rattle.bf_reach.proofs.Counted.{ones_of_vector}
use Rattle.bf_reach.proofs.BlockSteps.{length-block_rows, row_count}
use Rattle.bf_reach.proofs.blocks.Blocks.count.Goals as goal

pub count_vector-requires : goal.count_vector-requires
count_vector-requires c =
    let number : c.self.inside.rows ≡ length c.args.self.now = sym (length-block_rows c.self.inside.rows c.self.inside.words.items) ∙ ap length
    c.self.view_is in
    omega (arith, ap length c.as_slice.ensures.value, c.self.invariant.1)

pub overflow_cast-result : goal.overflow_cast-result
overflow_cast-result c =
    let number : c.self.inside.rows ≡ length c.args.self.now = sym (length-block_rows c.self.inside.rows c.self.inside.words.items) ∙ ap length
    c.self.view_is in
    let room : 8 * c.args.row + 8 ≤ length c.as_slice.result.now = omega (arith, ap length c.as_slice.ensures.value, c.self.invariant.1) in
    omega (arith, c.count_vector.ensures.ones, ones_of_vector c.as_slice.result.now (8 * c.args.row) room c.count_vector.ensures.fits)

pub returns : goal.returns
returns c =
    let rows = c.self.inside.rows in
    let words = c.self.inside.words.items in
    let number : rows ≡ length c.args.self.now = sym (length-block_rows rows words) ∙ ap length c.self.view_is in
    let fits : (i : ℕ) → get_or words i 0 < 2 ^ 64 = λ i. subst (λ l. get_or l i 0 < 2 ^ 64) c.as_slice.ensures.value (c.count_vector.ensures.fits i) in
    row_count rows words c.args.self.now c.args.row c.count_vector.result c.self.view_is c.self.invariant.1 (omega arith) fits
    (c.count_vector.ensures.ones ∙ ap (λ l. sum_by count_ones (chunk (8 * c.args.row) 8 l)) c.as_slice.ensures.value)
