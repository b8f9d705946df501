use Rattle.std.proofs.Common.{◌++◌, sym, ap, ◌∙◌, subst}
use Rattle.bf_state.specs.Session.{with_search}
use Rattle.bf_spec.specs.Guessed.{asked_at}
use Rattle.bf_spec.specs.Tree.{Guesses, HasNode, root_of}
use Rattle.bf_spec.proofs.Rerooting.{root_moved, path_from, path_to}
use Rattle.bf_spec.proofs.tree.SpecTree.jump.Goals as goal

pub reroot-requires : goal.reroot-requires
reroot-requires c = path_from c.self.inside.nodes.items c.args.path.now (subst (λ (t : Guesses). HasNode t c.args.path.now) (sym c.self.view_is) c.requires)

pub invariant_of-self : goal.invariant_of-self
invariant_of-self c = (root_moved c.self.inside.reach.now (λ a. asked_at c.self.inside.reach.now a c.args.path.now) c.self.inside.nodes.items
    c.reroot.new.self.items (c.reroot.ensures.tree c.self.inside.reach.now) c.self.invariant).tree

pub returns-clause-root : goal.returns-clause-root
returns-clause-root c =
    (root_moved c.self.inside.reach.now (λ a. asked_at c.self.inside.reach.now a c.args.path.now) c.self.inside.nodes.items c.reroot.new.self.items
    (c.reroot.ensures.tree c.self.inside.reach.now) c.self.invariant).root
    ∙ ap (λ (t : Guesses). asked_at t.graph t.root c.args.path.now) c.self.view_is

pub returns-clause-session : goal.returns-clause-session
returns-clause-session c =
    (root_moved c.self.inside.reach.now (λ a. asked_at c.self.inside.reach.now a c.args.path.now) c.self.inside.nodes.items c.reroot.new.self.items
    (c.reroot.ensures.tree c.self.inside.reach.now) c.self.invariant).session
    ∙ ap (λ (t : Guesses). with_search t.session (root_of c.reroot.new.self.items).search) c.self.view_is

pub returns-clause-paths : goal.returns-clause-paths
returns-clause-paths c = λ more. (
  λ h. subst (λ (t : Guesses). HasNode t (c.args.path.now ++ more)) c.self.view_is
      (path_to c.self.inside.nodes.items (c.args.path.now ++ more) ((c.reroot.ensures.paths more).0 (path_from c.reroot.new.self.items more h))),
  λ h. path_to c.reroot.new.self.items more ((c.reroot.ensures.paths more).1
      (path_from c.self.inside.nodes.items (c.args.path.now ++ more) (subst (λ (t : Guesses). HasNode t (c.args.path.now ++ more)) (sym c.self.view_is) h))),
)
