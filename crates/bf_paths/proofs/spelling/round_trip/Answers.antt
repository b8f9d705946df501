use Rattle.bf_paths.proofs.Writing.{path_value-quoted}
use Rattle.bf_paths.proofs.spelling.round_trip.Goals as goal

pub returns : goal.returns
returns c = path_value-quoted c.args.path.now c.components-components.ensures.path
