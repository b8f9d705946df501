use Rattle.std.proofs.Common.{ℕ, length, sym, ap, ◌∙◌, subst}
use Rattle.std.proofs.lemmas.Result.{IfOk-weaker}
use Rattle.bf_search.specs.State.{ask}
use Rattle.bf_state.specs.Session.{Session, IsSearchBelow}
use Rattle.bf_state.specs.Weighed.{mask_of}
use Rattle.bf_spec.specs.Nodes.{IsChild}
use Rattle.bf_spec.specs.Sights.{IsFresh}
use Rattle.bf_spec.proofs.Sights.{marked_as, asked_as, fresh_child}
use Rattle.bf_spec.proofs.grow.guessed.Goals as goal

pub next-requires-clause-asks : goal.next-requires-clause-asks
next-requires-clause-asks c = (
  c.args.reach.now,
  asked_as c.args.reach.now c.args.parent.now.state c.in_ok-state.state c.mark.new.self c.weigh.new.self c.args.mark c.args.place c.in_ok-state.ensures
      c.in_ok-mark.ensures.ok c.in_ok-weighed.ensures.state,
)

pub returns : goal.returns
returns c =
    let graph = c.args.reach.now in
    let base = c.args.parent.now.state in
    let marked = marked_as base c.in_ok-state.state c.mark.new.self c.args.mark c.args.place c.in_ok-state.ensures c.in_ok-mark.ensures.ok in
    let asked = asked_as graph base c.in_ok-state.state c.mark.new.self c.weigh.new.self c.args.mark c.args.place c.in_ok-state.ensures c.in_ok-mark.ensures.ok
    c.in_ok-weighed.ensures.state in
    IfOk-weaker c.fresh.result (IsFresh c.in_ok-path.path.items c.in_ok-kept.kept c.in_ok-weighed.weighed.step c.in_ok-weighed.weighed.mask)
    (λ child. IsChild graph c.args.parent.now c.args.mark child)
    (λ child is. fresh_child graph c.args.parent.now child c.args.mark c.args.place _ _ _ _ is c.in_ok-path.ensures c.requires.asks
    (c.in_ok-kept.ensures ∙ asked)
    (c.in_ok-weighed.ensures.step ∙ ap (λ (v : Session). (ask graph v.search).step) marked)
    (c.in_ok-weighed.ensures.mask ∙ ap (λ (v : Session). mask_of graph v.search) marked)
    (subst (λ (v : Session). IsSearchBelow (length graph) v.search) (sym c.in_ok-kept.ensures)
    (subst (λ (n : ℕ). IsSearchBelow n c.weigh.new.self.search) (ap (λ (v : Session). v.len) asked ∙ sym c.requires.len) c.len.ensures.below))) c.fresh.ensures
