use Rattle.std.proofs.Common.{arith, rules}
use Rattle.bf_stream.proofs.Chains.{reads_as}
use Rattle.bf_stream.proofs.Pieces.{all_taken}
use Rattle.bf_stream.proofs.cursor.Cursor.take_bytes.Goals as goal

pub returns : goal.returns
returns g c =
    reads_as (all_taken c.args.line c.args.count _ c.pieces.left _ _ c.pieces.invariant.taken (omega arith)) (search rules) c.pieces.invariant.goes.beyond
