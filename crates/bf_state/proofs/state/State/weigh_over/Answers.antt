use Rattle.std.proofs.Common.{◌<◌, ℕ, ap, ◌∙◌, subst}
use Rattle.std.specs.Option.{IfSome}
use Rattle.bf_search.specs.State.{Search}
use Rattle.bf_state.specs.Session.{with_search}
use Rattle.bf_state.specs.Steps.{tested}
use Rattle.bf_state.proofs.Asks.{decision_leaves, decision_within}
use Rattle.bf_state.proofs.state.State.weigh_over.Goals as goal

pub follow-requires : goal.follow-requires
follow-requires c =
    subst (λ (n : ℕ). IfSome (tested c.in_ok-decision.field-0.decision.step.ask) (λ p. p < n)) c.requires.len
    (decision_within c.args.reach.now c.args.self.now.search c.in_ok-decision.field-0.decision.checked c.in_ok-decision.field-0.decision.step
    c.in_ok-decision.ensures.graph c.in_ok-decision.ensures.decides)

pub returns-clause-state : goal.returns-clause-state
returns-clause-state c =
    c.follow.ensures ∙ ap (λ (s : Search). with_search c.args.self.now s)
    (decision_leaves c.args.reach.now c.args.self.now.search c.in_ok-decision.field-0.decision.checked c.in_ok-decision.field-0.decision.step
    c.in_ok-decision.ensures.decides)
