-- Lemmas on candidates: what the tests say, and that a path between two candidates has candidates alone.
use Rattle.std.proofs.Common.{◌≡◌, ℕ, zero, suc, ◌+◌, ◌<◌, ◌≤◌, Bool, true, false, not, List, [], ◌∷◌, length, get_or, refl, arith}
use Rattle.std.proofs.lemmas.Bool.{and_parts, and_from, not-true, not_from_false, false_from_ne_true, both_ways}
use Rattle.std.proofs.lemmas.List.FromFn.{length-map-range_with_len, get_or-map-range_with_len}
use Rattle.std.proofs.lemmas.List.Folds.{Any-from_list_any, list_any-from_Any}
use Rattle.std.specs.Bool.{Decides}
use Rattle.std.specs.List.{Any, Contains, filter, range_with_len}
use Rattle.bf_graph.specs.Graph.{IsGraph}
use Rattle.bf_search.specs.Reach.{in_mode, IsPath, Reaches, reaches, any_reaches, reach_row, reach_row_of}
use Rattle.bf_search.specs.Candidates.{is_in, places_of, is_candidate, candidates, candidate_row}
use Rattle.bf_search.proofs.Reaching.{Reaches-from_test, reaches-true, Reaches-trans}
use Rattle.bf_search.proofs.Modes.{IsGraph-in_mode, Reaches-in_mode}

-- ---- some of several places reaches another

pub record SomeReaches (graph : List (List ℕ)) (from : List ℕ) (q : ℕ) : Type 0 where
  pub source : ℕ
  pub among : Contains from source
  pub leads : Reaches graph source q

pub SomeReaches-from_test : (graph : List (List ℕ)) (from : List ℕ) (q : ℕ) → any_reaches graph from q ≡ true → SomeReaches graph from q
unfolding any_reaches
SomeReaches-from_test graph from q h =
    let found : Any (λ p. reaches graph p q ≡ true) from = Any-from_list_any (λ p. reaches graph p q) from h in
    record { source = found.1; among = (found.0, found.2, found.3); leads = Reaches-from_test graph found.1 q found.4 }

pub any_reaches-true : (graph : List (List ℕ)) (from : List ℕ) (q : ℕ) → IsGraph graph → SomeReaches graph from q → any_reaches graph from q ≡ true
unfolding any_reaches
any_reaches-true graph from q g h =
    list_any-from_Any (λ p. reaches graph p q) from (h.among.0, h.source, h.among.1, h.among.2, reaches-true graph h.source q g h.leads)

pub any_reaches_decides : (graph : List (List ℕ)) (from : List ℕ) (q : ℕ) → IsGraph graph → Decides (any_reaches graph from q) (SomeReaches graph from q)
any_reaches_decides graph from q g = (SomeReaches-from_test graph from q, any_reaches-true graph from q g)

-- ---- candidates

-- the bad place reaches it in the mode, and no good place reaches it
pub record IsCandidate (graph : List (List ℕ)) (bad : ℕ) (goods : List ℕ) (first_parent : Bool) (p : ℕ) : Type 0 where
  pub reached : Reaches (in_mode graph first_parent) bad p
  pub not_good : SomeReaches graph goods p → ⊥

pub IsCandidate-from_test : (graph : List (List ℕ)) (bad : ℕ) (goods : List ℕ) (first_parent : Bool) (p : ℕ) → IsGraph graph
    → is_candidate graph bad goods first_parent p ≡ true → IsCandidate graph bad goods first_parent p
unfolding is_candidate
IsCandidate-from_test graph bad goods first_parent p g h =
    let both = and_parts (reaches (in_mode graph first_parent) bad p) (not (any_reaches graph goods p)) h in
    record {
      reached = Reaches-from_test (in_mode graph first_parent) bad p both.0;
      not_good = λ s. both_ways _ (not-true _ both.1) (any_reaches-true graph goods p g s);
    }

pub is_candidate-true : (graph : List (List ℕ)) (bad : ℕ) (goods : List ℕ) (first_parent : Bool) (p : ℕ) → IsGraph graph
    → IsCandidate graph bad goods first_parent p → is_candidate graph bad goods first_parent p ≡ true
unfolding is_candidate
is_candidate-true graph bad goods first_parent p g h =
    and_from _ _ (reaches-true (in_mode graph first_parent) bad p (IsGraph-in_mode graph first_parent g) h.reached)
    (not_from_false _ (false_from_ne_true _ (λ e. h.not_good (SomeReaches-from_test graph goods p e))))

pub is_candidate_decides : (graph : List (List ℕ)) (bad : ℕ) (goods : List ℕ) (first_parent : Bool) (p : ℕ) → IsGraph graph
    → Decides (is_candidate graph bad goods first_parent p) (IsCandidate graph bad goods first_parent p)
is_candidate_decides graph bad goods first_parent p g =
    (IsCandidate-from_test graph bad goods first_parent p g, is_candidate-true graph bad goods first_parent p g)

-- A place on the way from one candidate to another in the mode is a candidate.
pub IsCandidate-between : (graph : List (List ℕ)) (bad : ℕ) (goods : List ℕ) (first_parent : Bool) (p r q : ℕ) → IsCandidate graph bad goods first_parent p
    → IsCandidate graph bad goods first_parent q → Reaches (in_mode graph first_parent) p r → Reaches (in_mode graph first_parent) r q
    → IsCandidate graph bad goods first_parent r
IsCandidate-between graph bad goods first_parent p r q above below down on = record {
  reached = Reaches-trans above.reached down;
  not_good = λ s. below.not_good (record { source = s.source; among = s.among; leads = Reaches-trans s.leads (Reaches-in_mode graph first_parent r q on) });
}

-- so a path in the mode between two candidates has candidates alone
pub path_of_candidates : (graph : List (List ℕ)) (bad : ℕ) (goods : List ℕ) (first_parent : Bool) (p : ℕ) (path : List ℕ) (q : ℕ)
    → IsCandidate graph bad goods first_parent p → IsCandidate graph bad goods first_parent q → IsPath (in_mode graph first_parent) p path q → (k : ℕ)
    → k < length path → IsCandidate graph bad goods first_parent (get_or path k 0)
path_of_candidates graph bad goods first_parent p [] q above below h k l = absurd (omega arith)
path_of_candidates graph bad goods first_parent p (next ∷ path) q above below h zero l =
    IsCandidate-between graph bad goods first_parent p next q above below (record { path = next ∷ []; leads = (h.0, refl) })
    (record { path = path; leads = h.1 })
path_of_candidates graph bad goods first_parent p (next ∷ path) q above below h (suc k) l =
    path_of_candidates graph bad goods first_parent next path q
    (IsCandidate-between graph bad goods first_parent p next q above below (record { path = next ∷ []; leads = (h.0, refl) })
    (record { path = path; leads = h.1 }))
    below h.1 k (omega arith)

-- ---- rows

pub length-reach_row : (graph : List (List ℕ)) (p : ℕ) → length (reach_row graph p) ≡ length graph
unfolding reach_row
length-reach_row graph p = length-map-range_with_len (λ q. reaches graph p q) 0 (length graph)

pub is_in-reach_row : (graph : List (List ℕ)) (p q : ℕ) → q < length graph → is_in (reach_row graph p) q ≡ reaches graph p q
unfolding reach_row
is_in-reach_row graph p q h = get_or-map-range_with_len (λ q. reaches graph p q) 0 (length graph) q q false h (omega arith)

pub length-reach_row_of : (graph : List (List ℕ)) (from : List ℕ) → length (reach_row_of graph from) ≡ length graph
unfolding reach_row_of
length-reach_row_of graph from = length-map-range_with_len (λ q. any_reaches graph from q) 0 (length graph)

pub is_in-reach_row_of : (graph : List (List ℕ)) (from : List ℕ) (q : ℕ) → q < length graph → is_in (reach_row_of graph from) q ≡ any_reaches graph from q
unfolding reach_row_of
is_in-reach_row_of graph from q h = get_or-map-range_with_len (λ q. any_reaches graph from q) 0 (length graph) q q false h (omega arith)

pub length-candidate_row : (graph : List (List ℕ)) (bad : ℕ) (goods : List ℕ) (first_parent : Bool)
    → length (candidate_row graph bad goods first_parent) ≡ length graph
unfolding candidate_row
length-candidate_row graph bad goods first_parent = length-map-range_with_len (λ p. is_candidate graph bad goods first_parent p) 0 (length graph)

pub is_in-candidate_row : (graph : List (List ℕ)) (bad : ℕ) (goods : List ℕ) (first_parent : Bool) (p : ℕ) → p < length graph
    → is_in (candidate_row graph bad goods first_parent) p ≡ is_candidate graph bad goods first_parent p
unfolding candidate_row
is_in-candidate_row graph bad goods first_parent p h = get_or-map-range_with_len (λ p. is_candidate graph bad goods first_parent p) 0 (length graph) p p false h
    (omega arith)

filter_agree_on : (f g : ℕ → Bool) (a n : ℕ) → ((k : ℕ) → a ≤ k → k < a + n → f k ≡ g k) → filter f (range_with_len a n) ≡ filter g (range_with_len a n)
filter_agree_on f g a zero h = refl
filter_agree_on f g a (suc n) h =
    let rest : filter f (range_with_len (a + 1) n) ≡ filter g (range_with_len (a + 1) n) = filter_agree_on f g (a + 1) n
    (λ k l m. h k (omega arith) (omega arith)) in
    rw (h a (omega arith) (omega arith), rest)

-- the candidates are the places of their row
pub places_of-candidate_row : (graph : List (List ℕ)) (bad : ℕ) (goods : List ℕ) (first_parent : Bool)
    → places_of (candidate_row graph bad goods first_parent) ≡ candidates graph bad goods first_parent
unfolding candidates
places_of-candidate_row graph bad goods first_parent =
    rw (length-candidate_row graph bad goods first_parent)
    (filter_agree_on (λ p. is_in (candidate_row graph bad goods first_parent) p) (λ p. is_candidate graph bad goods first_parent p) 0 (length graph)
    (λ k l m. is_in-candidate_row graph bad goods first_parent k (omega arith)))
