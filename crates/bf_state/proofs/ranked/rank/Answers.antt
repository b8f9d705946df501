use Rattle.std.proofs.Common.{◌∙◌}
use Rattle.std.proofs.lemmas.Result.{IfOk-weaker}
use Rattle.bf_choice.specs.Ranking.{IsRanking}
use Rattle.bf_state.specs.Ranked.{IsRankingOf}
use Rattle.bf_state.proofs.Passing.{length-all, all_within}
use Rattle.bf_state.proofs.Ranks.{ranking_of}
use Rattle.bf_state.proofs.ranked.rank.Goals as goal

pub new-requires-clause-weight_each : goal.new-requires-clause-weight_each
new-requires-clause-weight_each c = length-all c.args.reach.now c.args.state.now.search _ _ c.requires.mask (c.as_slice.ensures.value ∙ c.in_ok-weights.ensures)

pub new-requires-clause-within : goal.new-requires-clause-within
new-requires-clause-within c = all_within c.args.reach.now c.args.state.now.search _ _ c.requires.mask (c.as_slice.ensures.value ∙ c.in_ok-weights.ensures)

pub returns : goal.returns
returns c =
    let graph = c.args.reach.now in
    let s = c.args.state.now.search in
    IfOk-weaker c.new.result (IsRanking c.args.mask.now c.as_slice.result.now c.args.bad) (IsRankingOf graph s)
    (λ ps. ranking_of graph s c.args.mask.now c.as_slice.result.now c.args.bad ps c.requires.bad c.requires.mask
    (c.as_slice.ensures.value ∙ c.in_ok-weights.ensures)) c.new.ensures
