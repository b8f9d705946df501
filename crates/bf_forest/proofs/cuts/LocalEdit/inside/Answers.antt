use Rattle.bf_forest.proofs.Cutting.{cut_inside}
use Rattle.bf_forest.proofs.cuts.LocalEdit.inside.Goals as goal

pub invariant_of-result : goal.invariant_of-result
invariant_of-result c =
    let known = cut_inside c.self.inside.edit.now c.self.inside.path.now c.args.self.now c.self.view_is c.self.invariant.0 c.self.invariant.1 c.requires in
    (known.0, known.1)

pub returns : goal.returns
returns c = (cut_inside c.self.inside.edit.now c.self.inside.path.now c.args.self.now c.self.view_is c.self.invariant.0 c.self.invariant.1 c.requires).2
