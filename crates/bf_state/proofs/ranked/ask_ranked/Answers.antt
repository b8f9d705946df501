use Rattle.std.proofs.Common.{ap, ◌∙◌}
use Rattle.bf_search.specs.Choice.{best}
use Rattle.bf_state.specs.Session.{Session}
use Rattle.bf_state.proofs.Ranks.{over_choice}
use Rattle.bf_state.proofs.ranked.ask_ranked.Goals as goal

pub returns-clause-answer : goal.returns-clause-answer
returns-clause-answer c = λ weights ranking.
    let chosen = c.choose-chosen.ensures in
    c.in_ok-ask.ensures ∙ over_choice c.args.mask.now c.args.state.now.search.skips weights c.args.bad c.choose-chosen.result.place
    (chosen.best c.args.mask.now weights c.args.bad ranking ∙ ap (λ (v : Session). best c.args.mask.now weights c.args.bad v.search.skips) c.state.view_is)
    (chosen.other c.args.mask.now weights c.args.bad ranking)
