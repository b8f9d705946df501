use Rattle.std.proofs.Common.{◌≡◌, ℕ, ◌∷◌, [], length, sym, ap, ◌∙◌, subst}
use Rattle.std.proofs.lemmas.Result.{IfOk-weaker}
use Rattle.bf_search.specs.State.{ask}
use Rattle.bf_state.specs.Session.{Session, IsSearchBelow}
use Rattle.bf_state.specs.Ends.{HasEnds}
use Rattle.bf_spec.specs.Nodes.{path_of, IsTree}
use Rattle.bf_spec.specs.Sights.{IsFresh}
use Rattle.bf_spec.proofs.Growing.{ends_asked}
use Rattle.bf_spec.proofs.Rerooting.{one_tree, settled_ask}
use Rattle.bf_spec.proofs.Sights.{asked_is, session_is, fresh_sight}
use Rattle.bf_spec.proofs.grow.first.Goals as goal

pub returns-clause-tree : goal.returns-clause-tree
returns-clause-tree c =
    let graph = c.args.reach.now in
    let base = c.args.state in
    let asked = c.in_ok-kept.ensures ∙ c.in_ok-weighed.ensures.state in
    IfOk-weaker c.fresh.result (IsFresh c.new-path.result.items c.in_ok-kept.kept c.in_ok-weighed.weighed.step c.in_ok-weighed.weighed.mask)
    (λ node. IsTree graph base (ask graph base.search) (node ∷ []))
    (λ node is.
    let state = is.state ∙ asked in
    one_tree graph base (ask graph base.search) node c.len-2.ensures.graph (sym c.requires.len) (settled_ask graph base.search)
    (is.path_is ∙ c.new-path.ensures.items)
    (asked_is base (ask graph base.search) node state (is.step ∙ c.in_ok-weighed.ensures.step))
    (session_is base node.state (ask graph base.search).search state)
    (fresh_sight graph base.search _ _ _ _ node is (ap (λ (v : Session). v.search) asked) c.in_ok-weighed.ensures.mask)
    (subst (λ (v : Session). IsSearchBelow (length graph) v.search) (sym (is.state ∙ c.in_ok-kept.ensures))
    (subst (λ (n : ℕ). IsSearchBelow n c.weigh.new.self.search) (ap (λ (v : Session). v.len) c.in_ok-weighed.ensures.state ∙ sym c.requires.len)
    c.len.ensures.below))
    (subst (λ (v : Session). HasEnds v.search) (sym state) (ends_asked graph base.search c.requires.ends))) c.fresh.ensures

pub returns-clause-path : goal.returns-clause-path
returns-clause-path c =
    IfOk-weaker c.fresh.result (IsFresh c.new-path.result.items c.in_ok-kept.kept c.in_ok-weighed.weighed.step c.in_ok-weighed.weighed.mask)
    (λ node. path_of node ≡ []) (λ node is. is.path_is ∙ c.new-path.ensures.items) c.fresh.ensures
