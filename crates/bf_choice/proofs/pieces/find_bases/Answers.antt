use Rattle.std.proofs.Common.{◌≡◌, ℕ, ◌+◌, ◌-◌, ◌<◌, ◌≤◌, List, length, min, sym, subst, arith}
use Rattle.std.specs.List.{All}
use Rattle.bf_graph.specs.Graph.{parents_of}
use Rattle.bf_choice.specs.Pieces.{HasParentsFrom}
use Rattle.bf_choice.proofs.Cutting.{HasBases-more, HasParentsFrom-more}
use Rattle.bf_choice.proofs.pieces.find_bases.Goals as goal

more_from : (graph : List (List ℕ)) (place next bound low found : ℕ) (parents : List ℕ) → next ≡ place + 1 → HasParentsFrom graph next bound
    → parents ≡ parents_of graph place → (0 < low → 0 < length parents) → All (λ parent. low ≤ parent) parents
    → found ≡ min bound low → HasParentsFrom graph place found
more_from graph place next bound low found parents e has are some lowest is =
    subst (HasParentsFrom graph place) (sym is)
    (HasParentsFrom-more graph place next bound low e has (subst (λ (ps : List ℕ). 0 < low → 0 < length ps) are some)
    (subst (λ (ps : List ℕ). All (λ parent. low ≤ parent) ps) are lowest))

pub loop-place-preserved : goal.loop-place-preserved
loop-place-preserved c =
    let has : HasParentsFrom c.args.graph.now (c.loop-place.place - 1) c.min-bound.result =
    more_from c.args.graph.now (c.loop-place.place - 1) c.loop-place.place c.loop-place.bound c.lowest.result c.min-bound.result c.parents.result.now
    (omega arith) c.loop-place.invariant.1 c.parents.ensures.parents
    c.lowest.ensures.some c.lowest.ensures.lowest c.min-bound.ensures in (
      HasBases-more c.args.graph.now c.loop-place.bases.items (c.loop-place.place - 1) c.min-bound.result c.may_start.result c.len-place.ensures.graph
          c.requires (omega arith) has c.may_start.ensures c.loop-place.invariant.0,
      has,
    )
