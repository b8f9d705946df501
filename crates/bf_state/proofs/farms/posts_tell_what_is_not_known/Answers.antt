use Rattle.bf_state.proofs.Legal.{untold_at}
use Rattle.bf_state.proofs.farms.posts_tell_what_is_not_known.Goals as goal

pub returns : goal.returns
returns c = λ farm worker p tidy h. untold_at farm worker p tidy h
