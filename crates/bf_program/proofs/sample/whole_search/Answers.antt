use Rattle.bf_program.proofs.Sampling.{begun_ends}
use Rattle.bf_program.proofs.sample.whole_search.Goals as goal

pub returns-clause-ends : goal.returns-clause-ends
returns-clause-ends c =
    begun_ends c.args.request.now c.args.len _ _ c.between_ends.result c.requires c.last_place.ensures.value c.first_places.ensures.value
    c.between_ends.ensures.begun
