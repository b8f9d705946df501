use Rattle.bf_names.proofs.Leaping.{leap_none}
use Rattle.bf_names.proofs.leap.leap_from.Goals as goal

pub returns-in-None : goal.returns-in-None
returns-in-None c = leap_none c.args.graph.now c.args.place
