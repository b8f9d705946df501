use Rattle.std.proofs.Common.{bit_and}
use Rattle.std.specs.Int.{bit_not, w64}
use Rattle.bf_reach.proofs.Joined.{zip2_map_right}
use Rattle.bf_reach.proofs.words.AndNotBitOp.lanes.Goals as goal

pub returns : goal.returns
returns c = zip2_map_right bit_and (bit_not w64) c.args.left c.args.right
