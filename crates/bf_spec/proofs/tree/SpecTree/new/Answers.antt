use Rattle.std.proofs.Common.{List, sym, ap, ◌∙◌, subst}
use Rattle.bf_search.specs.State.{Asked, ask}
use Rattle.bf_state.specs.Session.{with_search}
use Rattle.bf_spec.specs.declared.node.Node.{Node}
use Rattle.bf_spec.specs.Nodes.{IsTree}
use Rattle.bf_spec.proofs.Rerooting.{rooted_as, root_is, session_is}
use Rattle.bf_spec.proofs.tree.SpecTree.new.Goals as goal

pub invariant_of-result : goal.invariant_of-result
invariant_of-result c =
    rooted_as c.args.reach.now c.args.state (ask c.args.reach.now c.args.state.search) c.in_ok-nodes.nodes.items
    (subst (λ (xs : List Node). IsTree c.args.reach.now c.args.state (ask c.args.reach.now c.args.state.search) xs) (sym c.in_ok-nodes.ensures)
    c.in_ok-root.ensures.tree)

pub returns-clause-root : goal.returns-clause-root
returns-clause-root c =
    root_is c.args.reach.now c.args.state (ask c.args.reach.now c.args.state.search) c.in_ok-nodes.nodes.items
    (subst (λ (xs : List Node). IsTree c.args.reach.now c.args.state (ask c.args.reach.now c.args.state.search) xs) (sym c.in_ok-nodes.ensures)
    c.in_ok-root.ensures.tree)

pub returns-clause-session : goal.returns-clause-session
returns-clause-session c =
    let tree : IsTree c.args.reach.now c.args.state (ask c.args.reach.now c.args.state.search) c.in_ok-nodes.nodes.items
    = subst (λ (xs : List Node). IsTree c.args.reach.now c.args.state (ask c.args.reach.now c.args.state.search) xs) (sym c.in_ok-nodes.ensures)
    c.in_ok-root.ensures.tree in
    session_is c.args.reach.now c.args.state (ask c.args.reach.now c.args.state.search) c.in_ok-nodes.nodes.items tree
    ∙ ap (λ (a : Asked). with_search c.args.state a.search)
    (sym (root_is c.args.reach.now c.args.state (ask c.args.reach.now c.args.state.search) c.in_ok-nodes.nodes.items tree))
