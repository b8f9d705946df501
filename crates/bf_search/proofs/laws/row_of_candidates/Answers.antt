use Rattle.bf_search.proofs.CandidateLemmas.{places_of-candidate_row}
use Rattle.bf_search.proofs.laws.row_of_candidates.Goals as goal

pub returns : goal.returns
returns c = places_of-candidate_row
