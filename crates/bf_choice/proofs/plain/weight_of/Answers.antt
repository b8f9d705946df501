use Rattle.std.proofs.Common.{◌&&◌, List, Bool, length, ap, sym, ◌∙◌, arith}
use Rattle.std.proofs.lemmas.Simd.{length-zip2}
use Rattle.bf_choice.proofs.Weighed.{weight_in-counted, weight_in-none}
use Rattle.bf_choice.proofs.plain.weight_of.Goals as goal

pub returns-clause-weight : goal.returns-clause-weight
returns-clause-weight c =
    c.count.ensures
    ∙ weight_in-counted c.args.reach.now c.args.mask.now c.args.first_parent c.args.place c.fill_in_mode.new.out c.and_from.new.self c.requires.mask
    (sym c.get.ensures ∙ c.if-not-get.false)
    c.fill_in_mode.ensures.row c.and_from.ensures

pub returns-clause-reached : goal.returns-clause-reached
returns-clause-reached c =
    ap (λ (row : List Bool). length row) c.and_from.ensures
    ∙ length-zip2 ◌&&◌ c.fill_in_mode.new.out c.args.mask.now (omega (arith, c.fill_in_mode.ensures.len, c.requires.reached, c.requires.mask))
    ∙ c.fill_in_mode.ensures.len ∙ c.requires.reached

pub returns-then-not-get-clause-weight : goal.returns-then-not-get-clause-weight
returns-then-not-get-clause-weight c = weight_in-none c.args.reach.now c.args.mask.now c.args.first_parent c.args.place (sym c.get.ensures ∙ c.if-not-get.true)
