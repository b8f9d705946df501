use Rattle.std.proofs.Common.{◌≡◌, Bool, true, false, List, length, replicate, set, ap, subst, ◌∙◌, arith}
use Rattle.bf_reach.specs.Marks.{Marks}
use Rattle.bf_reach.proofs.Marking.{reaches-from_marks}
use Rattle.bf_reach.proofs.reach.Reach.reaches.Goals as goal

pub returns-clause-answer : goal.returns-clause-answer
returns-clause-answer c =
    let start : c.set.new.self ≡ set (replicate (length c.args.scratch.now) false) c.args.from true = c.set.ensures ∙ ap
    (λ (row : List Bool). set row c.args.from true) c.clear.ensures in
    c.get.ensures
    ∙ reaches-from_marks _ _ (length c.args.scratch.now) _ _ _ c.len.ensures.graph (omega arith)
    (subst (λ (row : List Bool). Marks c.args.self.now row c.walk.new.out c.args.to) start c.walk.ensures) (omega arith)
