use Rattle.std.proofs.Common.{ap, ◌∙◌}
use Rattle.bf_search.specs.State.{Search, mark}
use Rattle.bf_state.specs.Session.{Session, with_search}
use Rattle.bf_state.proofs.Below.{mark_added}
use Rattle.bf_state.proofs.state.State.mark.Goals as goal

pub returns-clause-ok : goal.returns-clause-ok
returns-clause-ok c =
    let now : Session = c.args.self.now in
    c.settle.ensures ∙ ap (λ (v : Session). with_search v (mark v.search c.args.mark c.args.place)) c.in_ok-add_if_good.ensures.ok
    ∙ ap (λ (s : Search). with_search now s) (mark_added now.search c.args.mark c.args.place)
