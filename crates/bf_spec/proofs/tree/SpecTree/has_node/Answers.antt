use Rattle.std.proofs.Common.{List, ◌++◌, sym, subst}
use Rattle.bf_spec.specs.declared.node.Node.{Node}
use Rattle.bf_spec.specs.Tree.{Guesses, HasNode}
use Rattle.bf_spec.specs.Nodes.{HasPath}
use Rattle.bf_spec.proofs.Rerooting.{path_from, path_to, prefix_has}
use Rattle.bf_spec.proofs.tree.SpecTree.has_node.Goals as goal

pub returns-clause-node : goal.returns-clause-node
returns-clause-node c = (
  λ h. subst (λ (t : Guesses). HasNode t c.args.path.now) c.self.view_is
      (path_to c.self.inside.nodes.items c.args.path.now
      (subst (λ (xs : List Node). HasPath xs c.args.path.now) c.as_slice.ensures.value (c.has_path.ensures.0 h))),
  λ h. c.has_path.ensures.1 (subst (λ (xs : List Node). HasPath xs c.args.path.now) (sym c.as_slice.ensures.value)
      (path_from c.self.inside.nodes.items c.args.path.now (subst (λ (t : Guesses). HasNode t c.args.path.now) (sym c.self.view_is) h))),
)

pub returns-clause-prefixes : goal.returns-clause-prefixes
returns-clause-prefixes c = λ begin end h.
    subst (λ (t : Guesses). HasNode t begin) c.self.view_is
    (path_to c.self.inside.nodes.items begin (prefix_has c.self.inside.reach.now _ _ c.self.inside.nodes.items begin end c.self.invariant
    (path_from c.self.inside.nodes.items (begin ++ end) (subst (λ (t : Guesses). HasNode t (begin ++ end)) (sym c.self.view_is) h))))
