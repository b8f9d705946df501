use Rattle.std.proofs.Common.{List, Bool, refl, sym, subst, ◌∙◌}
use Rattle.bf_choice.specs.Ranking.{IsRanking}
use Rattle.bf_search.specs.State.{ask}
use Rattle.bf_state.specs.declared.asking.Passage.{Passage}
use Rattle.bf_state.specs.Steps.{IsPassage}
use Rattle.bf_state.specs.Weighed.{mask_of, weights_of}
use Rattle.bf_state.proofs.Passing.{decide_over, length-mask}
use Rattle.bf_state.proofs.Ranks.{ranked_within}
use Rattle.bf_state.proofs.ranked.decide_ranked.Goals as goal

pub ask_ranked-requires-clause-within : goal.ask_ranked-requires-clause-within
ask_ranked-requires-clause-within c =
    let graph = c.args.reach.now in
    let s = c.args.state.now.search in
    let passes = subst (λ (p : Passage). IsPassage graph (ask graph s) s p) c.in-Passed.is c.in_ok-step.ensures.passes in
    ranked_within (mask_of graph s) (weights_of graph s) c.args.ranking.now c.in-Passed.bad _
    (length-mask graph s (mask_of graph s) refl ∙ c.requires.len ∙ sym c.in_ok-step.ensures.below.skips)
    (c.requires.ranking c.in-Passed.bad passes.bad_is)

pub returns-in_ok-ask-in-Passed-clause-decides : goal.returns-in_ok-ask-in-Passed-clause-decides
returns-in_ok-ask-in-Passed-clause-decides c =
    let graph = c.args.reach.now in
    let s = c.args.state.now.search in
    let passes = subst (λ (p : Passage). IsPassage graph (ask graph s) s p) c.in-Passed.is c.in_ok-step.ensures.passes in
    decide_over graph s c.in-Passed.bad _ c.args.mask.now (weights_of graph s) _ passes c.requires.mask refl
    (c.in_ok-ask-in-Passed.ensures.answer (weights_of graph s)
    (subst (λ (m : List Bool). IsRanking m (weights_of graph s) c.in-Passed.bad c.args.ranking.now) (sym c.requires.mask)
    (c.requires.ranking c.in-Passed.bad passes.bad_is)))
