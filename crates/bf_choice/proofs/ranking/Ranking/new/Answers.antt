use Rattle.bf_choice.proofs.Ranked.{sorted_ranking}
use Rattle.bf_choice.proofs.ranking.Ranking.new.Goals as goal

pub returns : goal.returns
returns c = sorted_ranking c.args.mask.now c.args.weights.now c.args.bad c.in_ok-ranks.ranks.items c.sort_unstable.new.self.items c.in_ok-ranks.ensures
    c.sort_unstable.ensures.permutation c.sort_unstable.ensures.sorted
