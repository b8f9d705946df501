use Rattle.bf_state.proofs.OnePath.{one_path}
use Rattle.bf_state.proofs.paths.one_path_a_place.Goals as goal

pub returns : goal.returns
returns c = λ graph known s ms ns p one two g over h k. one_path graph known s ms ns p one two g over h k
