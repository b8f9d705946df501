use Rattle.std.proofs.Common.{List, ◌∷◌, [], ◌++◌, sym, ap, ◌∙◌, subst, arith}
use Rattle.std.proofs.Common.{length-append}
use Rattle.bf_spec.specs.declared.node.Node.{Node}
use Rattle.bf_spec.specs.Nodes.{path_of, Extends, Follows}
use Rattle.bf_spec.specs.Links.{Listed}
use Rattle.bf_spec.proofs.Growing.{asked_within, sight_of, extends_push, extends_same, read_as}
use Rattle.bf_spec.proofs.Linking.{at_end}
use Rattle.bf_spec.proofs.walk.child.Goals as goal

pub grown-requires-clause-below : goal.grown-requires-clause-below
grown-requires-clause-below c =
    asked_within c.args.reach.now c.args.nodes.now.items c.index.result.now c.args.place c.requires.nodes
    (c.args.index, c.requires.index, sym c.index.ensures) (ap (λ (n : Node). n.step.ask) c.index.ensures ∙ c.requires.asks c.index.result.now)

pub grown-requires-clause-sight : goal.grown-requires-clause-sight
grown-requires-clause-sight c = sight_of c.args.reach.now c.args.nodes.now.items c.index.result.now c.requires.nodes
    (c.args.index, c.requires.index, sym c.index.ensures)

pub add-requires-clause-path : goal.add-requires-clause-path
add-requires-clause-path c = λ d. c.in_ok-child.ensures.path ∙ ap (λ (n : Node). path_of n ++ c.args.mark ∷ [])
    (sym (read_as c.args.nodes.now.items c.args.index c.index.result.now d c.requires.index c.index.ensures))

pub returns-clause-extends : goal.returns-clause-extends
returns-clause-extends c =
    subst (λ (xs : List Node). Extends c.args.reach.now c.args.nodes.now.items xs) (sym c.in_ok-number.ensures.items)
    (extends_push c.args.reach.now c.args.nodes.now.items c.index.result.now c.in_ok-child.child c.args.mark
    (c.args.index, c.requires.index, sym c.index.ensures) c.in_ok-child.ensures)

pub returns-clause-child : goal.returns-clause-child
returns-clause-child c =
    subst (λ (xs : List Node). Follows c.args.nodes.now.items c.args.index c.args.mark xs c.in_ok-number.number) (sym c.in_ok-number.ensures.items)
    (subst (λ k. Follows c.args.nodes.now.items c.args.index c.args.mark (c.args.nodes.now.items ++ c.in_ok-child.child ∷ []) k)
    (sym c.in_ok-number.ensures.child) (
      omega (arith, length-append c.args.nodes.now.items (c.in_ok-child.child ∷ [])),
      λ d. ap path_of (at_end c.args.nodes.now.items c.in_ok-child.child d) ∙ c.in_ok-child.ensures.path ∙ ap (λ (n : Node). path_of n ++ c.args.mark ∷ [])
          (sym (read_as c.args.nodes.now.items c.args.index c.index.result.now d c.requires.index c.index.ensures)),
    ))

pub returns-in_err-number-clause-extends : goal.returns-in_err-number-clause-extends
returns-in_err-number-clause-extends c = subst (λ (v : Listed). Extends c.args.reach.now c.args.nodes.now.items v.items) (sym c.in_err-number.ensures.err)
    (extends_same c.args.reach.now c.args.nodes.now.items)
