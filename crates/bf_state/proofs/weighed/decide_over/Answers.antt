use Rattle.std.proofs.Common.{subst, ◌∙◌}
use Rattle.bf_search.specs.State.{ask}
use Rattle.bf_state.specs.declared.asking.Passage.{Passage}
use Rattle.bf_state.specs.Steps.{IsPassage}
use Rattle.bf_state.proofs.Passing.{decide_over, length-mask, length-all, all_within}
use Rattle.bf_state.proofs.weighed.decide_over.Goals as goal

pub ask_over-requires-clause-len : goal.ask_over-requires-clause-len
ask_over-requires-clause-len c = length-mask _ _ _ c.requires.mask ∙ c.requires.len

pub ask_over-requires-clause-weights : goal.ask_over-requires-clause-weights
ask_over-requires-clause-weights c = length-all _ _ _ _ c.requires.mask c.requires.weights

pub ask_over-requires-clause-within : goal.ask_over-requires-clause-within
ask_over-requires-clause-within c = all_within _ _ _ _ c.requires.mask c.requires.weights

pub returns-in_ok-ask-in-Passed-clause-decides : goal.returns-in_ok-ask-in-Passed-clause-decides
returns-in_ok-ask-in-Passed-clause-decides c =
    decide_over _ _ _ _ _ _ _ (subst (λ (p : Passage). IsPassage c.args.reach.now (ask c.args.reach.now c.args.state.now.search) c.args.state.now.search p)
    c.in-Passed.is c.in_ok-step.ensures.passes)
    c.requires.mask c.requires.weights c.in_ok-ask-in-Passed.ensures
