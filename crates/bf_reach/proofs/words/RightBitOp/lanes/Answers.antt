use Rattle.bf_reach.proofs.Joined.{zip2_right}
use Rattle.bf_reach.proofs.words.RightBitOp.lanes.Goals as goal

pub returns : goal.returns
returns c = zip2_right c.args._left c.args.right c.requires
