use Rattle.std.proofs.Common.{ap, ◌∙◌}
use Rattle.bf_search.specs.declared.outcomes.Mark.TheVariants.{Skip}
use Rattle.bf_search.specs.State.{mark}
use Rattle.bf_state.specs.Session.{Session, with_search}
use Rattle.bf_state.specs.Steps.{passed_after}
use Rattle.bf_state.proofs.Passing.{passed_is, warned_is, skip_taken}
use Rattle.bf_state.proofs.state.State.take_skip.Goals as goal

pub returns-clause-warned : goal.returns-clause-warned
returns-clause-warned c =
    c.into_vec.ensures ∙ c.warned_after.ensures ∙ warned_is c.args.reach.now c.args.self.now.search c.in_ok-passage.passage c.in_ok-passage.ensures.passes

pub returns-clause-state : goal.returns-clause-state
returns-clause-state c =
    c.settle.ensures
    ∙ ap (λ (v : Session). with_search v (mark (record v.search { checked = c.passed_after-self-inside.result }) Skip c.args.place)) c.self.view_is
    ∙ skip_taken c.args.reach.now c.args.self.now c.args.place c.passed_after-self-inside.result
    (c.passed_after-self-inside.ensures ∙ ap (λ (v : Session). passed_after v.search.checked c.in_ok-passage.passage) c.self.view_is
    ∙ passed_is c.args.reach.now c.args.self.now.search c.in_ok-passage.passage c.in_ok-passage.ensures.passes)
