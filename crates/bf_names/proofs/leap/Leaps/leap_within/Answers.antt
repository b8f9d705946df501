use Rattle.std.proofs.Common.{sym}
use Rattle.bf_names.proofs.Leaping.{leap_parent}
use Rattle.bf_names.proofs.Walking.{ancestor-none}
use Rattle.bf_names.proofs.leap.Leaps.leap_within.Goals as goal

pub returns-in_err-parent-clause-none : goal.returns-in_err-parent-clause-none
returns-in_err-parent-clause-none c =
    rw c.from_residual.ensures
    (ancestor-none c.args.graph.now c.args.most c.args.place c.requires.most c.in_err-parent.ensures.value)

pub returns-clause-leap : goal.returns-clause-leap
returns-clause-leap c =
    leap_parent c.args.graph.now c.args.place c.in_ok-parent.parent (sym c.in_ok-parent.ensures.value) c.in_ok-parent.ensures.within
