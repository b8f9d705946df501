use Rattle.std.proofs.Common.{◌≡◌, ◌<◌, ℕ, ◌+◌, List, [], ◌∷◌, ◌++◌, All, length, sym, ap, subst, ◌∙◌, arith, length-append}
use Rattle.std.specs.List.Sorted.{IsPermutation}
use Rattle.std.proofs.lemmas.List.Sorted.{All-permutation}
use Rattle.bf_graph.specs.Graph.{parents_of}
use Rattle.bf_cert.specs.Edges.{AreRisingTo}
use Rattle.bf_cert.proofs.Halving.{one_more, sorted_places}
use Rattle.bf_cert.proofs.edges.sorted_graph.Goals as goal

pub push-requires-clause-earlier : goal.push-requires-clause-earlier
push-requires-clause-earlier c =
    let earlier : All (λ p. p < length c.loop-place.sorted) c.extend_from_slice.new.self.items = rw
    (c.in_ok-extend_from_slice.ensures.items ∙ ap (λ (xs : List ℕ). xs ++ c.parents.result.now) c.clear.ensures.items)
    (λ k d l. omega (arith, c.loop-place.invariant.len, c.parents.ensures.earlier k d l)) in
    rw c.as_slice.ensures.value
    (All-permutation (λ p. p < length c.loop-place.sorted) c.extend_from_slice.new.self.items c.sort_unstable.new.self.items
    c.sort_unstable.ensures.permutation earlier)

pub loop-place-preserved : goal.loop-place-preserved
loop-place-preserved c =
    let n = c.loop-place.place in
    let read : c.extend_from_slice.new.self.items ≡ parents_of c.args.graph.now n = c.in_ok-extend_from_slice.ensures.items
    ∙ ap (λ (xs : List ℕ). xs ++ c.parents.result.now) c.clear.ensures.items ∙ c.parents.ensures.parents in
    let rising = sorted_places (parents_of c.args.graph.now n) c.as_slice.result.now
    (subst (λ (xs : List ℕ). IsPermutation xs c.as_slice.result.now) read
    (rw c.as_slice.ensures.value c.sort_unstable.ensures.permutation)) (rw c.as_slice.ensures.value c.sort_unstable.ensures.sorted) in
    record {
      len = omega (arith, ap length c.in_ok-push.ensures.pushed, length-append c.loop-place.sorted (c.as_slice.result.now ∷ []), c.loop-place.invariant.len);
      each = rw c.in_ok-push.ensures.pushed
          (one_more n c.args.graph.now c.loop-place.sorted c.as_slice.result.now c.loop-place.invariant.len c.loop-place.invariant.each rising);
    }
