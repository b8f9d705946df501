use Rattle.std.proofs.Common.{Bool, List, ap, ◌∙◌}
use Rattle.std.specs.List.{count_by}
use Rattle.bf_spec.proofs.Keeping.{are_same}
use Rattle.bf_spec.proofs.grow.is_same_row.Goals as goal

pub returns : goal.returns
returns c = λ yes. are_same c.args.row.now c.args.other.now c.in_ok-rest.rest c.in_ok-back.back c.count.result c.count-2.result c.requires c.in_ok-rest.ensures
    c.in_ok-back.ensures
    (c.count.ensures ∙ ap (λ (xs : List Bool). count_by (λ v. v) xs) c.and_not.ensures) c.if-count-ne0.false
    (c.count-2.ensures ∙ ap (λ (xs : List Bool). count_by (λ v. v) xs) c.and_not-2.ensures) c.if-count-ne0-2.false
