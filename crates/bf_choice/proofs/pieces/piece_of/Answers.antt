use Rattle.std.proofs.Common.{◌≡◌, ℕ, ◌<◌, ◌≤◌, List, length, ap, sym, ◌∙◌, subst, arith}
use Rattle.std.specs.List.{All}
use Rattle.bf_graph.specs.Graph.{parents_of}
use Rattle.bf_choice.specs.Numbering.{number_of, numbers_of, IsNumbered}
use Rattle.bf_choice.specs.Pieces.{interval, shifted}
use Rattle.bf_choice.proofs.Numbered.{IsNumbered-more, numbers_of-below, number_of-le}
use Rattle.bf_choice.proofs.Cutting.{IsNumbered-piece_start, is_in-interval_yes, numbers_of-interval}
use Rattle.bf_choice.proofs.pieces.piece_of.Goals as goal

-- the parents of a place, as numbers in the piece
numbers-are : (graph : List (List ℕ)) (base end place : ℕ) (parents given : List ℕ) → place < end → end ≤ length graph → parents ≡ parents_of graph place
    → All (λ p. p < place) parents → given ≡ shifted base parents
    → given ≡ numbers_of (interval (length graph) base end) (parents_of graph place)
numbers-are graph base end place parents given l m e earlier is =
    is ∙ numbers_of-interval (length graph) base end place parents (omega arith) m earlier ∙ ap (numbers_of (interval (length graph) base end)) e

numbers_within : (graph : List (List ℕ)) (base end place : ℕ) (parents given : List ℕ) (size : ℕ) → place < end → end ≤ length graph
    → All (λ p. p < place) parents → given ≡ shifted base parents
    → size ≡ number_of (interval (length graph) base end) place → All (λ n. n < size) given
numbers_within graph base end place parents given size l m earlier is e =
    subst (λ (ns : List ℕ). All (λ n. n < size) ns) (sym (is ∙ numbers_of-interval (length graph) base end place parents (omega arith) m earlier))
    (subst (λ (x : ℕ). All (λ n. n < x) (numbers_of (interval (length graph) base end) parents)) (sym e)
    (numbers_of-below (interval (length graph) base end) parents place earlier))

pub loop-place-init : goal.loop-place-init
loop-place-init c = subst (λ (piece : List (List ℕ)). IsNumbered c.args.graph.now (interval (length c.args.graph.now) c.args.base c.args.end) c.args.base piece)
    (sym c.new-piece.ensures) (IsNumbered-piece_start _ _ _)

pub push-requires-clause-earlier : goal.push-requires-clause-earlier
push-requires-clause-earlier c =
    numbers_within c.args.graph.now c.args.base c.args.end c.loop-place.place c.parents.result.now c.as_slice.result.now (length c.loop-place.piece)
    (omega arith) c.requires.end c.parents.ensures.earlier
    (c.as_slice.ensures.value ∙ c.in_ok-shift_parents.ensures) c.loop-place.invariant.size

pub push-requires-clause-room : goal.push-requires-clause-room
push-requires-clause-room c = omega (
  arith,
  number_of-le (interval (length c.args.graph.now) c.args.base c.args.end) c.loop-place.place,
  c.loop-place.invariant.size,
)

pub loop-place-preserved : goal.loop-place-preserved
loop-place-preserved c =
    rw c.in_ok-push.ensures.pushed
    (IsNumbered-more c.args.graph.now (interval (length c.args.graph.now) c.args.base c.args.end) c.loop-place.place c.loop-place.piece c.as_slice.result.now
    (is_in-interval_yes (length c.args.graph.now) c.args.base c.args.end c.loop-place.place (omega arith) (omega arith) c.requires.end)
    (numbers-are c.args.graph.now c.args.base c.args.end c.loop-place.place c.parents.result.now c.as_slice.result.now (omega arith) c.requires.end
    c.parents.ensures.parents c.parents.ensures.earlier
    (c.as_slice.ensures.value ∙ c.in_ok-shift_parents.ensures))
    c.loop-place.invariant)
