use Rattle.bf_state.proofs.Best.{best_is_best}
use Rattle.bf_state.proofs.paths.best_open_path_is_best.Goals as goal

pub returns : goal.returns
returns c = λ graph known claims s path g over is. best_is_best graph known claims g s path over is
