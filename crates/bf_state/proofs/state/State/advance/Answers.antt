use Rattle.std.proofs.Common.{◌<◌, ℕ, sym, ap, ◌∙◌, subst}
use Rattle.std.specs.List.{All}
use Rattle.std.specs.Option.{IfSome}
use Rattle.bf_search.specs.declared.asks.Step.{Step}
use Rattle.bf_search.specs.State.{Search}
use Rattle.bf_search.proofs.Turns.{asking}
use Rattle.bf_state.specs.Session.{with_search, IsSearchBelow}
use Rattle.bf_state.specs.Steps.{tested}
use Rattle.bf_state.proofs.Asks.{decision_leaves, decision_within}
use Rattle.bf_state.proofs.Firsts.{first_bad}
use Rattle.bf_state.proofs.Within.{warned_in_session}
use Rattle.bf_state.proofs.state.State.advance.Goals as goal

pub follow-requires : goal.follow-requires
follow-requires c =
    subst (λ (n : ℕ). IfSome (tested c.in_ok-decision.decision.step.ask) (λ p. p < n)) c.requires
    (decision_within c.args.reach.now c.args.self.now.search c.in_ok-decision.decision.checked c.in_ok-decision.decision.step c.in_ok-decision.ensures.graph
    c.in_ok-decision.ensures.decides)

pub returns-clause-state : goal.returns-clause-state
returns-clause-state c =
    c.follow.ensures ∙ ap (λ (s : Search). with_search c.args.self.now s)
    (decision_leaves c.args.reach.now c.args.self.now.search c.in_ok-decision.decision.checked c.in_ok-decision.decision.step c.in_ok-decision.ensures.decides)

pub returns-clause-asked : goal.returns-clause-asked
returns-clause-asked c = λ p h.
    subst (λ (n : ℕ). p < n) c.requires
    (asking c.args.reach.now c.args.self.now.search p c.in_ok-decision.ensures.graph
    (ap (λ (t : Step). t.ask) (sym c.in_ok-decision.ensures.decides.step) ∙ h)).asks_for.within

pub returns-clause-first_bad : goal.returns-clause-first_bad
returns-clause-first_bad c = λ p h.
    first_bad c.args.reach.now c.args.self.now.search p c.in_ok-decision.ensures.graph
    (subst (λ (n : ℕ). IsSearchBelow n c.args.self.now.search) (sym c.requires) c.in_ok-decision.ensures.below)
    (ap (λ (t : Step). t.ask) (sym c.in_ok-decision.ensures.decides.step) ∙ h)

pub returns-clause-warned : goal.returns-clause-warned
returns-clause-warned c =
    subst (λ (t : Step). All (λ p. p < c.args.self.now.len) t.warned) (sym c.in_ok-decision.ensures.decides.step)
    (warned_in_session c.args.reach.now c.args.self.now c.requires c.in_ok-decision.ensures.below)
