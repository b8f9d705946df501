use Rattle.std.proofs.Common.{ℕ, None, ap, ◌∙◌}
use Rattle.bf_search.specs.declared.outcomes.Mark.{Mark}
use Rattle.bf_search.specs.State.{mark}
use Rattle.bf_state.specs.Session.{Session, with_search}
use Rattle.bf_state.proofs.Settled.{settled_taken}
use Rattle.bf_state.proofs.state.State.take_settled.Goals as goal

pub returns-clause-state : goal.returns-clause-state
returns-clause-state c =
    let now : Session = c.args.self.now in
    let m : Mark = c.args.mark in
    let p : ℕ = c.args.place in
    c.settle.ensures
    ∙ ap (λ (v : Session). with_search v (mark (record v.search { expected = None }) m p)) (c.self.view_is ∙ c.in_ok-add_if_good.ensures.ok)
    ∙ settled_taken c.args.reach.now now m p c.bases_to_warn_of.ensures.graph c.requires.settled c.requires.sided
