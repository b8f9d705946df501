use Rattle.bf_state.proofs.Best.{best_is_open}
use Rattle.bf_state.proofs.paths.best_open_path_is_open.Goals as goal

pub returns : goal.returns
returns c = λ graph known claims s path h. best_is_open graph known claims s path h
