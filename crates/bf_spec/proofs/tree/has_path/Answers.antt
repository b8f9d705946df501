use Rattle.std.proofs.Common.{refl}
use Rattle.bf_spec.proofs.Rerooting.{found_path}
use Rattle.bf_spec.proofs.tree.has_path.Goals as goal

pub returns-in-Some : goal.returns-in-Some
returns-in-Some c = (λ _. found_path c.args.nodes.now c.in-Some.field-0 c.args.path.now c.in-Some.ensures.found, λ _. refl)
