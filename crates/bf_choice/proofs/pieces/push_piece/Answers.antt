use Rattle.std.proofs.Common.{◌≡◌, ℕ, ◌+◌, ◌-◌, ◌<◌, ◌≤◌, List, [], ◌∷◌, ◌++◌, get_or, map, length, ap, sym, ◌∙◌, arith}
use Rattle.std.proofs.lemmas.List.FromFn.{map-range_with_len_more}
use Rattle.std.specs.List.{range_with_len}
use Rattle.bf_graph.specs.Graph.{IsGraph}
use Rattle.bf_choice.specs.Numbering.{IsNumbered}
use Rattle.bf_choice.specs.Pieces.{IsBase, interval}
use Rattle.bf_choice.specs.Sizes.{reach_size, reach_sizes}
use Rattle.bf_choice.proofs.Steps.{reach_size-le}
use Rattle.bf_choice.proofs.Weighed.{length-reach_sizes}
use Rattle.bf_choice.proofs.Cutting.{reach_size-in_piece, length-piece}
use Rattle.bf_choice.proofs.pieces.push_piece.Goals as goal

size_at : (graph piece : List (List ℕ)) (base end k : ℕ) (items : List ℕ) → IsGraph graph → IsGraph piece → IsBase graph base → base ≤ end → end ≤ length graph
    → IsNumbered graph (interval (length graph) base end) end piece
    → items ≡ reach_sizes piece → k < length items → base + get_or items k 0 ≡ reach_size graph (base + k)
size_at graph piece base end k items g s based order l numbered is within =
    ap (λ (xs : List ℕ). base + get_or xs k 0) is
    ∙ reach_size-in_piece graph piece base end k g s based order l numbered (omega (arith, ap (λ (xs : List ℕ). length xs) is, length-reach_sizes piece))

pub overflow_add-base : goal.overflow_add-base
overflow_add-base c =
    let size = size_at c.args.graph.now c.in_ok-piece.piece c.args.base c.args.end c.loop-size.size-index c.as_slice-size-items.result.now c.requires.graph
    c.in_ok-found.ensures.graph c.requires.base c.requires.order c.requires.end c.in_ok-piece.ensures
    (c.as_slice-size-items.ensures.value ∙ c.in_ok-found.ensures.sizes) c.loop-size-test.true in
    omega (arith, size, reach_size-le c.args.graph.now (c.args.base + c.loop-size.size-index))

pub loop-size-preserved : goal.loop-size-preserved
loop-size-preserved c =
    c.in_ok-push.ensures.items
    ∙ ap (λ (xs : List ℕ). xs ++ (c.args.base + get_or c.as_slice-size-items.result.now c.loop-size.size-index 0) ∷ []) c.loop-size.invariant
    ∙ ap (λ (x : ℕ). map (reach_size c.args.graph.now) (range_with_len 0 (c.args.base + c.loop-size.size-index)) ++ x ∷ [])
    (size_at c.args.graph.now c.in_ok-piece.piece c.args.base c.args.end c.loop-size.size-index c.as_slice-size-items.result.now c.requires.graph
    c.in_ok-found.ensures.graph c.requires.base c.requires.order c.requires.end c.in_ok-piece.ensures
    (c.as_slice-size-items.ensures.value ∙ c.in_ok-found.ensures.sizes) c.loop-size-test.true)
    ∙ sym (map-range_with_len_more (reach_size c.args.graph.now) 0 (c.args.base + c.loop-size.size-index) (c.args.base + c.loop-size.size-index) (omega arith))
    ∙ ap (λ (n : ℕ). map (reach_size c.args.graph.now) (range_with_len 0 n))
    (let e : c.args.base + c.loop-size.size-index + 1 ≡ c.args.base + (c.loop-size.size-index + 1) = omega arith in e)

pub returns : goal.returns
returns c =
    let long : length c.as_slice-size-items.result.now ≡ length c.in_ok-piece.piece = ap (λ (xs : List ℕ). length xs)
    (c.as_slice-size-items.ensures.value ∙ c.in_ok-found.ensures.sizes) ∙ length-reach_sizes c.in_ok-piece.piece in
    let piece : length c.in_ok-piece.piece ≡ c.args.end - c.args.base = length-piece c.args.graph.now c.in_ok-piece.piece c.args.base c.args.end
    c.requires.order c.requires.end c.in_ok-piece.ensures in
    let whole : c.args.base + c.loop-size.size-index ≡ c.args.end = omega arith in
    c.loop-size.invariant ∙ ap (λ (n : ℕ). map (reach_size c.args.graph.now) (range_with_len 0 n)) whole
