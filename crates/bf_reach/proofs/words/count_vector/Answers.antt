use Rattle.std.proofs.Common.{ℕ, ◌^◌, ◌<◌, get_or, zero-add, ◌∙◌, arith}
use Rattle.std.specs.Simd.Lanes.{sum_l}
use Rattle.std.proofs.lemmas.Simd.{fold-sum, sum_fits}
use Rattle.std.proofs.Common.{w64}
use Rattle.bf_reach.proofs.Counted.{lane_sum, ones_of_vector}
use Rattle.bf_reach.proofs.words.count_vector.Goals as goal

pub overflow_add-result : goal.overflow_add-result
overflow_add-result c =
    let fits : (k : ℕ) → get_or c.args.words.now k 0 < 2 ^ 64 = λ k. omega (arith, c.type_inv.words k) in
    sum_fits w64 0 c.count_lanes.result (omega (
      arith,
      lane_sum c.args.words.now c.count_lanes.result c.args.at c.count_lanes.ensures,
      ones_of_vector
          c.args.words.now c.args.at c.requires fits,
    ))

pub returns-clause-ones : goal.returns-clause-ones
returns-clause-ones c = fold-sum 0 c.count_lanes.result ∙ zero-add (sum_l c.count_lanes.result) ∙ lane_sum c.args.words.now c.count_lanes.result c.args.at
    c.count_lanes.ensures
