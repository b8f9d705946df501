use Rattle.bf_names.proofs.Leaping.{leap_known, leap_parent}
use Rattle.bf_names.proofs.leap.leap_over.Goals as goal

pub returns-then-first-second : goal.returns-then-first-second
returns-then-first-second c =
    leap_known c.args.graph.now c.args.leaps.now c.args.place c.args.parent (record { steps = 0; place = 0 }) c.requires.leaps
    c.requires.parent c.requires.earlier c.requires.known

pub returns-else-first-second : goal.returns-else-first-second
returns-else-first-second c = leap_parent c.args.graph.now c.args.place c.args.parent c.requires.parent c.requires.earlier
