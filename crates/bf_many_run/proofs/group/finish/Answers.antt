use Rattle.std.proofs.Common.{ap, ◌∙◌}
use Rattle.bf_state.specs.Session.{Session}
use Rattle.bf_many_run.proofs.Telling.{log_ended}
use Rattle.bf_many_run.proofs.group.finish.Goals as goal

pub returns : goal.returns
returns c =
    log_ended c.args.history.now c.args.telling c.add_leg.new.self c.args.report _ _ c.end.result c.in_ok-add_leg.ensures.text
    c.in_ok-add_leg.ensures.trace c.commits_of.ensures.commits (c.sides_of-sides.ensures ∙ ap (λ (s : Session). s.terms) c.state.view_is)
    c.end.ensures.status c.end.ensures.text
