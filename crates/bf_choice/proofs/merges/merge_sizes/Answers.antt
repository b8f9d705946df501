use Rattle.std.proofs.Common.{ℕ, List, sym, ◌∙◌, subst}
use Rattle.bf_choice.specs.Sizes.{CountsMerges}
use Rattle.bf_choice.proofs.MergeCounts.{CountsMerges-start}
use Rattle.bf_choice.proofs.merges.merge_sizes.Goals as goal

pub count_merges-requires : goal.count_merges-requires
count_merges-requires c =
    subst (λ (sizes : List ℕ). CountsMerges c.args.graph.now 0 sizes)
    (sym (c.as_mut_slice.ensures.value ∙ c.in_ok-sizes.ensures.items_if_clones_equal (λ y e. e)))
    (CountsMerges-start c.args.graph.now c.len.result c.len.ensures.len)
