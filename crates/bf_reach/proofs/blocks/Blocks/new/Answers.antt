use Rattle.bf_reach.proofs.BlockSteps.{rows_empty}
use Rattle.bf_reach.proofs.blocks.Blocks.new.Goals as goal

pub returns : goal.returns
returns c = rows_empty c.args.rows c.in_ok-words.words.items _ (c.in_ok-words.ensures.items_if_clones_equal (λ y e. e))
