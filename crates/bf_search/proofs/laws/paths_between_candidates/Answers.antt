use Rattle.bf_search.proofs.CandidateLemmas.{IsCandidate-from_test, IsCandidate-between, is_candidate-true}
use Rattle.bf_search.proofs.laws.paths_between_candidates.Goals as goal

pub returns : goal.returns
returns c = λ graph bad goods first_parent p r q g above below down on.
    is_candidate-true graph bad goods first_parent r g
    (IsCandidate-between graph bad goods first_parent p r q (IsCandidate-from_test graph bad goods first_parent p g above)
    (IsCandidate-from_test graph bad goods first_parent q g below) down on)
