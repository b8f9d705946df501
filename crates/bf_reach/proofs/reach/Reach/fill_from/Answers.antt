use Rattle.std.proofs.Common.{◌≡◌, ◌<◌, Bool, false, List, length, replicate, ap, subst, ◌∙◌, arith}
use Rattle.std.proofs.lemmas.List.{length-replicate}
use Rattle.bf_reach.specs.Marks.{Marks, marked}
use Rattle.bf_search.proofs.RowLemmas.{is_in-lt}
use Rattle.bf_reach.proofs.Marking.{row_of-from_marks, length-marked}
use Rattle.bf_reach.proofs.reach.Reach.fill_from.Goals as goal

start : (c : goal.After-walk-arg-1) → c.mark_all.new.out ≡ marked (replicate (length c.args.out.now) false) c.args.places.now
start c = c.mark_all.ensures ∙ ap (λ (row : List Bool). marked row c.args.places.now) c.clear.ensures

same_length : (c : goal.After-walk-arg-1) → length c.mark_all.new.out ≡ length c.args.self.now
same_length c = ap length (start c) ∙ length-marked _ c.args.places.now ∙ length-replicate (length c.args.out.now) false ∙ c.requires.out

pub walk-requires-clause-out : goal.walk-requires-clause-out
walk-requires-clause-out c = same_length c

pub walk-requires-clause-marks : goal.walk-requires-clause-marks
walk-requires-clause-marks c = λ p h. let l : p < length c.mark_all.new.out = is_in-lt _ p h in omega (arith, same_length c, c.len.ensures.len)

pub returns-clause-row : goal.returns-clause-row
returns-clause-row c =
    let start : c.mark_all.new.out ≡ marked (replicate (length c.args.out.now) false) c.args.places.now = c.mark_all.ensures ∙ ap
    (λ (row : List Bool). marked row c.args.places.now) c.clear.ensures in
    row_of-from_marks _ _ (length c.args.out.now) _ c.len.ensures.graph c.requires.out (rw c.requires.out c.requires.places)
    (subst (λ (row : List Bool). Marks c.args.self.now row c.walk.new.out 0) start c.walk.ensures)

pub returns-clause-len : goal.returns-clause-len
returns-clause-len c = c.walk.ensures.same_length ∙ ap length c.mark_all.ensures ∙ length-marked c.clear.new.self c.args.places.now ∙ ap length c.clear.ensures
    ∙ length-replicate (length c.args.out.now) false
