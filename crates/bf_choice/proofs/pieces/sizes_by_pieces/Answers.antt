use Rattle.std.proofs.Common.{◌≡◌, length, ◌∙◌, arith}
use Rattle.bf_choice.proofs.Cutting.{sizes-all}
use Rattle.bf_choice.proofs.pieces.sizes_by_pieces.Goals as goal

pub returns-clause-sizes : goal.returns-clause-sizes
returns-clause-sizes c =
    let end : c.loop-place.place ≡ length c.args.graph.now = omega arith in
    sizes-all c.args.graph.now c.loop-place.base c.loop-place.sizes.items (c.loop-place.invariant.3 end ∙ end) c.loop-place.invariant.0
