use Rattle.std.proofs.Common.{◌≡◌, ℕ, Bool, List, length, map, ap, sym, ◌∙◌, subst}
use Rattle.std.specs.Result.{IfOk}
use Rattle.std.specs.List.{range_with_len}
use Rattle.bf_graph.specs.Graph.{IsGraph}
use Rattle.bf_search.specs.Reach.{in_mode}
use Rattle.bf_search.specs.Candidates.{IsCandidateRow, weights}
use Rattle.bf_choice.specs.Numbering.{number_of, size_of_number, IsNumbered}
use Rattle.bf_choice.specs.Sizes.{reach_sizes}
use Rattle.bf_choice.specs.Pieces.{HasTop}
use Rattle.bf_choice.proofs.Weighed.{HasTop-candidates, length-mask, length-reach_sizes, weights-by_numbers}
use Rattle.bf_choice.proofs.weighing.weights.Goals as goal

-- the graph that reach lends is its own
weights_of_lent : (graph lent : List (List ℕ)) (first_parent : Bool) (row : List Bool) (small : List (List ℕ)) (sizes : List ℕ) → lent ≡ graph → IsGraph lent
    → IsGraph small → IsCandidateRow graph first_parent row
    → IsNumbered (in_mode lent first_parent) row (length lent) small → sizes ≡ reach_sizes small
    → map (size_of_number row sizes) (range_with_len 0 (length row)) ≡ weights graph row first_parent
weights_of_lent graph lent first_parent row small sizes e g s h numbered is =
    weights-by_numbers graph first_parent row small sizes (subst IsGraph e g) s h
    (subst (λ (x : List (List ℕ)). IsNumbered (in_mode x first_parent) row (length x) small) e numbered) is

top_of_lent : (graph lent : List (List ℕ)) (first_parent : Bool) (row : List Bool) (small : List (List ℕ)) → lent ≡ graph → IsGraph lent
    → IsCandidateRow graph first_parent row → IsNumbered (in_mode lent first_parent) row (length lent) small → HasTop small
top_of_lent graph lent first_parent row small e g h numbered =
    HasTop-candidates graph first_parent row small (subst IsGraph e g) h
    (subst (λ (x : List (List ℕ)). IsNumbered (in_mode x first_parent) row (length x) small) e numbered)

pub candidate_graph-requires-clause-mask : goal.candidate_graph-requires-clause-mask
candidate_graph-requires-clause-mask c = length-mask _ _ _ c.requires ∙ ap (λ (g : List (List ℕ)). length g) (sym c.graph.ensures)

pub sizes_by_pieces-requires : goal.sizes_by_pieces-requires
sizes_by_pieces-requires c = top_of_lent c.args.reach.now c.graph.result.now c.args.first_parent c.args.mask.now c.in_ok-small.small c.graph.ensures
    c.in_ok-small.ensures.graph c.requires c.in_ok-small.ensures.numbered

pub by_place-requires-clause-sizes : goal.by_place-requires-clause-sizes
by_place-requires-clause-sizes c =
    ap (λ (xs : List ℕ). length xs) (c.as_slice-3.ensures.value ∙ c.in_ok-sizes.ensures.sizes) ∙ length-reach_sizes c.in_ok-small.small ∙
    c.in_ok-small.ensures.numbered.size
    ∙ ap (λ (n : ℕ). number_of c.args.mask.now n) (ap (λ (g : List (List ℕ)). length g) c.graph.ensures ∙ sym (length-mask _ _ _ c.requires))

pub returns : goal.returns
returns c =
    subst (λ (xs : List ℕ). IfOk c.by_place.result (λ w. w.items ≡ xs))
    (weights_of_lent c.args.reach.now c.graph.result.now c.args.first_parent c.args.mask.now c.in_ok-small.small c.as_slice-3.result.now c.graph.ensures
    c.in_ok-small.ensures.graph
    c.in_ok-sizes.ensures.graph c.requires c.in_ok-small.ensures.numbered (c.as_slice-3.ensures.value ∙ c.in_ok-sizes.ensures.sizes))
    c.by_place.ensures
