use Rattle.std.proofs.Common.{◌≡◌, ◌+◌, ◌≤◌, Bool, List, get_or, length, ap, sym, ◌∙◌, arith}
use Rattle.std.specs.List.{count_by}
use Rattle.bf_graph.specs.Graph.{parents_of}
use Rattle.bf_choice.specs.declared.parents.Parentage.TheVariants.{Merge}
use Rattle.bf_choice.specs.Sizes.{parentage_of}
use Rattle.bf_choice.specs.BlockRows.{number_in}
use Rattle.bf_choice.proofs.MergeCounts.{CountsBlock-more, CountsBlock-fits}
use Rattle.bf_choice.proofs.SharedNumbers.{taken-more, taken-within}
use Rattle.bf_choice.proofs.merges.count_row.Goals as goal

pub count-requires-clause-row : goal.count-requires-clause-row
count-requires-clause-row c =
    taken-more (number_in c.args.start c.args.rows.now.numbers.items c.args.place) c.args.rows.now.taken (length c.args.rows.now.blocks) (taken-within c.requires.rows (omega (arith, c.requires.place)))
    (c.requires.rows.before.taken c.args.place (omega arith) c.requires.place)

pub overflow_add-sizes : goal.overflow_add-sizes
overflow_add-sizes c =
    let merge : parentage_of (parents_of c.args.graph.now c.args.place) ≡ Merge = ap parentage_of (sym c.parents.ensures.parents) ∙ c.is_merge.ensures.0
    c.if-is_merge.true in
    let fits : get_or c.args.sizes.now c.args.place 0 + c.count.result ≤ length c.args.graph.now =
    CountsBlock-fits _ _ _ _ _ c.requires.graph c.requires.place merge
    (c.count.ensures ∙ ap (λ (row : List Bool). count_by (λ v. v) row) (c.requires.rows.before.filled _ (omega arith) c.requires.place)) c.requires.counted in
    omega arith

pub returns-then-is_merge : goal.returns-then-is_merge
returns-then-is_merge c =
    let merge : parentage_of (parents_of c.args.graph.now c.args.place) ≡ Merge = ap parentage_of (sym c.parents.ensures.parents) ∙ c.is_merge.ensures.0
    c.if-is_merge.true in
    CountsBlock-more _ _ _ _ _ c.requires.place merge
    (c.count.ensures ∙ ap (λ (row : List Bool). count_by (λ v. v) row) (c.requires.rows.before.filled _ (omega arith) c.requires.place)) c.requires.counted
