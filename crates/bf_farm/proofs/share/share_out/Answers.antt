use Rattle.std.proofs.Crossing.{crosses}
use denote.Param.Send.{sendable}
use Rattle.bf_farm.proofs.Sending.{shared_sync}
use Rattle.bf_farm.proofs.share.share_out.Goals as goal

pub for_each_mut-requires-sync-F : goal.for_each_mut-requires-sync-F
for_each_mut-requires-sync-F g t c κs = search (sendable, crosses, shared_sync) depth 60 fits 20000
