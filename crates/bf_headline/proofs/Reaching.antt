-- Reach in short is reach.
use Rattle.std.proofs.Common.{◌≡◌, ℕ, zero, suc, not, ◌&&◌, ◌||◌, ◌==◌, List, refl}
use Rattle.std.specs.List.{filter, list_any}
use Rattle.bf_graph.specs.Graph.{parents_of}
use Rattle.bf_search.specs.Reach as long
use Rattle.bf_search.specs.Candidates as candidates
use Rattle.bf_search.specs.Bases as bases
use Rattle.bf_headline.specs.Headline as short

reaches_in-is : (steps : ℕ) (graph : List (List ℕ)) → short.reaches_in steps graph ≡ long.reaches_within steps graph
unfolding short.reaches_in long.reaches_within
reaches_in-is zero graph = refl
reaches_in-is (suc steps) graph =
    λ i p q. (p == q) || list_any (λ parent. reaches_in-is steps graph i parent q) (parents_of graph p)

pub reaches-is : (graph : List (List ℕ)) → short.reaches graph ≡ long.reaches graph
unfolding long.reaches
reaches-is graph = λ i p. reaches_in-is p graph i p

pub some_reaches-is : (graph : List (List ℕ)) → short.some_reaches graph ≡ long.any_reaches graph
unfolding long.any_reaches
some_reaches-is graph = λ i ps q. list_any (λ p. reaches-is graph i p q) ps

pub candidates-is : (graph : List (List ℕ)) (s : short.Standing)
    → short.candidates graph s ≡ candidates.candidates graph s.bad s.goods s.first_parent
unfolding candidates.candidates candidates.is_candidate
candidates-is graph s =
    λ i. filter (λ p. reaches-is (long.in_mode graph s.first_parent) i s.bad p && not (some_reaches-is graph i s.goods p)) (long.places graph)

pub merge_bases-is : (graph : List (List ℕ)) (s : short.Standing) → short.merge_bases graph s ≡ bases.merge_bases graph s.bad s.goods
unfolding bases.merge_bases bases.common_places
merge_bases-is graph s =
    λ i. let common = filter (λ p. reaches-is graph i s.bad p && some_reaches-is graph i s.goods p) (long.places graph) in
    filter (λ p. not (list_any (λ q. not (q == p) && reaches-is graph i q p) common)) common
