use Rattle.std.proofs.Common.{◌≡◌, Bool, true, false, List, length, replicate, set, ap, subst, ◌∙◌, arith}
use Rattle.bf_reach.specs.Marks.{Marks}
use Rattle.bf_reach.proofs.Marking.{row-from_marks}
use Rattle.bf_reach.proofs.reach.Reach.fill_row.Goals as goal

pub returns-clause-row : goal.returns-clause-row
returns-clause-row c =
    let start : c.set.new.self ≡ set (replicate (length c.args.out.now) false) c.args.place true = c.set.ensures ∙ ap
    (λ (row : List Bool). set row c.args.place true) c.clear.ensures in
    row-from_marks _ _ (length c.args.out.now) _ c.len.ensures.graph c.requires.out (omega arith)
    (subst (λ (row : List Bool). Marks c.args.self.now row c.walk.new.out 0) start c.walk.ensures)
