use Rattle.std.proofs.Common.{◌≡◌, ℕ, ◌+◌, ◌≤◌, get_or, length, ap, sym, ◌∙◌, arith}
use Rattle.bf_graph.specs.Graph.{parents_of}
use Rattle.bf_choice.specs.declared.parents.Parentage.TheVariants.{Single}
use Rattle.bf_choice.specs.Sizes.{parentage_of, reach_size}
use Rattle.bf_choice.proofs.Steps.{reach_size-root, reach_size-single, reach_size-le, single-earlier}
use Rattle.bf_choice.proofs.sizes.size_at.Goals as goal

pub overflow_add-result : goal.overflow_add-result
overflow_add-result c =
    let single : parentage_of (parents_of c.args.graph.now c.args.place) ≡ Single c.in-Single.parent = ap parentage_of (sym c.parents.ensures.parents) ∙ sym
    c.in-Single.ensures in
    let parent : get_or c.args.sizes.now c.in-Single.parent 0 ≡ reach_size c.args.graph.now c.in-Single.parent = c.requires.known.before _
    (single-earlier _ _ _ c.requires.graph single) in
    let more : reach_size c.args.graph.now c.args.place ≡ reach_size c.args.graph.now c.in-Single.parent + 1 = reach_size-single _ _ _ c.requires.graph
    c.requires.place single in
    let most : reach_size c.args.graph.now c.args.place ≤ length c.args.graph.now = reach_size-le c.args.graph.now c.args.place in
    omega arith

pub returns-in-Root : goal.returns-in-Root
returns-in-Root c = sym (reach_size-root _ _ c.requires.graph c.requires.place (ap parentage_of (sym c.parents.ensures.parents) ∙ sym c.in-Root.ensures))

pub returns-in-Single : goal.returns-in-Single
returns-in-Single c =
    let single : parentage_of (parents_of c.args.graph.now c.args.place) ≡ Single c.in-Single.parent = ap parentage_of (sym c.parents.ensures.parents) ∙ sym
    c.in-Single.ensures in
    ap (λ (n : ℕ). n + 1) (c.requires.known.before _ (single-earlier _ _ _ c.requires.graph single)) ∙ sym
    (reach_size-single _ _ _ c.requires.graph c.requires.place single)
