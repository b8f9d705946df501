use Rattle.bf_state.proofs.Parted.{guesses_part}
use Rattle.bf_state.proofs.laws.guesses_part_the_candidates.Goals as goal

pub returns : goal.returns
returns c = λ graph s q p g h. guesses_part graph s q p g h
