use Rattle.std.proofs.Common.{◌≡◌, ℕ, ◌*◌, ◌/◌, ◌^◌, ◌<◌, length, get_or, take, ap, ◌∙◌, zero-add, arith, count_ones}
use Rattle.std.specs.List.{sum_by}
use Rattle.std.proofs.lemmas.Nat.{ones-le}
use Rattle.std.proofs.lemmas.Simd.{fold-sum}
use Rattle.std.specs.Simd.Lanes.{sum_l}
use Rattle.bf_reach.proofs.Counted.{lanes_fit, counted_lanes, total_fits, ones_small}
use Rattle.bf_reach.proofs.words.count.Goals as goal

pub overflow_add-lanes : goal.overflow_add-lanes
overflow_add-lanes c =
    let fits : (k : ℕ) → get_or c.args.words.now k 0 < 2 ^ 64 = λ k. omega (arith, c.type_inv.words k) in
    lanes_fit c.args.words.now c.loop-block.lanes c.count_lanes-lanes.result (c.loop-block.block * 8) c.loop-block.invariant c.count_lanes-lanes.ensures fits
    c.requires

pub loop-block-preserved : goal.loop-block-preserved
loop-block-preserved c =
    counted_lanes c.args.words.now c.loop-block.lanes c.count_lanes-lanes.result (c.loop-block.block * 8) _ c.loop-block.invariant c.count_lanes-lanes.ensures
    (omega arith) (omega arith)

pub overflow_add-total : goal.overflow_add-total
overflow_add-total c =
    let fits : (k : ℕ) → get_or c.args.words.now k 0 < 2 ^ 64 = λ k. omega (arith, c.type_inv.words k) in
    total_fits c.args.words.now c.loop-block.lanes (c.loop-block.block * 8) c.loop-block.invariant fits c.requires

pub loop-at-init : goal.loop-at-init
loop-at-init c =
    let reached : c.loop-block.block * 8 ≡ length c.args.words.now / 8 * 8 = omega arith in
    fold-sum 0 c.loop-block.lanes ∙ zero-add (sum_l c.loop-block.lanes) ∙ c.loop-block.invariant.counted ∙ ap (λ n. sum_by count_ones (take n c.args.words.now))
    reached

pub overflow_add-total-in-loop-at : goal.overflow_add-total-in-loop-at
overflow_add-total-in-loop-at c =
    let fits : (k : ℕ) → get_or c.args.words.now k 0 < 2 ^ 64 = λ k. omega (arith, c.type_inv.words k) in
    omega (
      arith,
      c.from-total.ensures,
      ones-le 64 (get_or c.args.words.now c.loop-at.at 0) (fits c.loop-at.at),
      ones_small c.args.words.now c.loop-at.at fits
          c.requires,
    )
