use Rattle.std.proofs.Common.{◌≡◌, ◌<◌, ℕ, Bool, Option, sym, ap, ◌∙◌, subst}
use Rattle.std.specs.Option.{IfSome}
use Rattle.bf_search.specs.declared.outcomes.Mark.{Mark}
use Rattle.bf_search.specs.State.{Search, ask, mark}
use Rattle.bf_state.specs.Session.{Session, with_search}
use Rattle.bf_state.specs.Steps.{tested, followed, with_marked_good}
use Rattle.bf_state.proofs.Asks.{decision_leaves, decision_within}
use Rattle.bf_state.proofs.Below.{mark_added, follow_added}
use Rattle.bf_state.proofs.state.State.take.Goals as goal

pub follow-requires : goal.follow-requires
follow-requires c =
    subst (λ (n : ℕ). IfSome (tested c.in_ok-decision.decision.step.ask) (λ p. p < n))
    (c.requires.len ∙ sym (ap (λ (v : Session). v.len) c.in_ok-add_if_good.ensures.ok))
    (decision_within c.args.reach.now c.args.self.now.search c.in_ok-decision.decision.checked c.in_ok-decision.decision.step c.in_ok-decision.ensures.graph
    c.in_ok-decision.ensures.decides)

pub returns-clause-state : goal.returns-clause-state
returns-clause-state c =
    let now : Session = c.args.self.now in
    let m : Mark = c.args.mark in
    let p : ℕ = c.args.place in
    let checked : Bool = c.in_ok-decision.decision.checked in
    let expected : Option ℕ = tested c.in_ok-decision.decision.step.ask in
    let followed_is : c.follow.new.self ≡ with_search now (with_marked_good (ask c.args.reach.now now.search).search m p) =
    c.follow.ensures ∙ ap (λ (v : Session). with_search v (followed v.search checked expected)) c.in_ok-add_if_good.ensures.ok
    ∙ ap (λ (s : Search). with_search now s) (follow_added now.search m p checked expected)
    ∙ ap (λ (s : Search). with_search now (with_marked_good s m p))
    (decision_leaves c.args.reach.now now.search checked c.in_ok-decision.decision.step c.in_ok-decision.ensures.decides) in
    c.settle.ensures ∙ ap (λ (v : Session). with_search v (mark v.search m p)) followed_is
    ∙ ap (λ (s : Search). with_search now s) (mark_added (ask c.args.reach.now now.search).search m p)
