use Rattle.bf_state.proofs.Way.{goes_the_way}
use Rattle.bf_state.proofs.paths.way_to_a_place.Goals as goal

pub returns : goal.returns
returns c = λ graph known s q m ms x left g h allows rest. goes_the_way graph known s q m ms x left g h allows rest
