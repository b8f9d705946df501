use Rattle.std.proofs.Common.{arith, ap, ◌∙◌}
use Rattle.bf_spec.specs.Nodes.{path_of}
use Rattle.bf_spec.proofs.walk.find.Goals as goal

pub returns-clause-none : goal.returns-clause-none
returns-clause-none c = λ h. c.loop-i.invariant h.among.0 h.node (omega (arith, h.among.1)) (ap path_of h.among.2 ∙ h.has)
