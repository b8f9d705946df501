use Rattle.std.proofs.Common.{subst}
use Rattle.bf_search.specs.State.{ask}
use Rattle.bf_state.specs.declared.asking.Passage.{Passage}
use Rattle.bf_state.specs.Steps.{IsPassage}
use Rattle.bf_state.proofs.Passing.{decide_among}
use Rattle.bf_state.proofs.asking.decide.Goals as goal

pub returns-in_ok-ask-in-Passed-clause-decides : goal.returns-in_ok-ask-in-Passed-clause-decides
returns-in_ok-ask-in-Passed-clause-decides c =
    decide_among _ _ _ _ _ (subst (λ (p : Passage). IsPassage c.args.reach.now (ask c.args.reach.now c.args.state.now.search) c.args.state.now.search p)
    c.in-Passed.is c.in_ok-step.ensures.passes) c.in_ok-ask-in-Passed.ensures
