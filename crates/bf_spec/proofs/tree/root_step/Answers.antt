use Rattle.bf_spec.proofs.Rerooting.{root_step_at}
use Rattle.bf_spec.proofs.tree.root_step.Goals as goal

pub returns : goal.returns
returns c = root_step_at c.requires.0 c.requires.1.session c.requires.1.root c.args.nodes.now c.in-Some.root c.index-nodes-root.result c.requires.1.tree
    c.in-Some.ensures.found
