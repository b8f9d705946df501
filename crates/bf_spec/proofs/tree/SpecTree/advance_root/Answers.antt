use Rattle.std.proofs.Common.{◌∷◌, [], sym, ap, ◌∙◌, subst}
use Rattle.bf_state.specs.Session.{with_search}
use Rattle.bf_spec.specs.Guessed.{next_asked}
use Rattle.bf_spec.specs.Tree.{Guesses, HasNode, root_of, IsRooted}
use Rattle.bf_spec.proofs.Rerooting.{ok_so, by_result, root_moved, path_from, path_to}
use Rattle.bf_spec.proofs.tree.SpecTree.advance_root.Goals as goal

pub invariant_of-self : goal.invariant_of-self
invariant_of-self c =
    by_result c.advance_nodes.result c.advance_nodes.ensures.tree c.advance_nodes.ensures.err
    (λ h. (root_moved c.self.inside.reach.now (λ a. next_asked c.self.inside.reach.now a c.args.mark) c.self.inside.nodes.items c.advance_nodes.new.nodes.items
    h c.self.invariant).tree)
    (λ e. subst (λ v. IsRooted c.self.inside.reach.now v.items) (sym e) c.self.invariant)

pub returns-clause-root : goal.returns-clause-root
returns-clause-root c =
    ok_so c.advance_nodes.result
    (λ h. (root_moved c.self.inside.reach.now (λ a. next_asked c.self.inside.reach.now a c.args.mark) c.self.inside.nodes.items c.advance_nodes.new.nodes.items
    h c.self.invariant).root
    ∙ ap (λ (t : Guesses). next_asked t.graph t.root c.args.mark) c.self.view_is)
    c.advance_nodes.ensures.tree

pub returns-clause-session : goal.returns-clause-session
returns-clause-session c =
    ok_so c.advance_nodes.result
    (λ h. (root_moved c.self.inside.reach.now (λ a. next_asked c.self.inside.reach.now a c.args.mark) c.self.inside.nodes.items c.advance_nodes.new.nodes.items
    h c.self.invariant).session
    ∙ ap (λ (t : Guesses). with_search t.session (root_of c.advance_nodes.new.nodes.items).search) c.self.view_is)
    c.advance_nodes.ensures.tree

pub returns-clause-kept : goal.returns-clause-kept
returns-clause-kept c = λ guess child.
    let here = path_from c.self.inside.nodes.items (c.args.mark ∷ []) (subst (λ (t : Guesses). HasNode t (c.args.mark ∷ [])) (sym c.self.view_is) child) in
    let kept = c.advance_nodes.ensures.kept guess here in (
      kept.0,
      λ path. (
        λ h. subst (λ (t : Guesses). HasNode t (c.args.mark ∷ path)) c.self.view_is
            (path_to c.self.inside.nodes.items (c.args.mark ∷ path) ((kept.1 path).0 (path_from c.advance_nodes.new.nodes.items path h))),
        λ h. path_to c.advance_nodes.new.nodes.items path
            ((kept.1 path).1 (path_from c.self.inside.nodes.items (c.args.mark ∷ path)
            (subst (λ (t : Guesses). HasNode t (c.args.mark ∷ path)) (sym c.self.view_is) h))),
      ),
    )

pub returns-clause-fresh : goal.returns-clause-fresh
returns-clause-fresh c =
    ok_so c.advance_nodes.result
    (λ fresh none. fresh (λ guess child. none guess
    (subst (λ (t : Guesses). HasNode t (c.args.mark ∷ [])) c.self.view_is (path_to c.self.inside.nodes.items (c.args.mark ∷ []) child))))
    c.advance_nodes.ensures.fresh
