use Rattle.bf_many_run.proofs.Listing.{read_is_short}
use Rattle.bf_many_run.proofs.list.request_of.Goals as goal

pub asks_for_more-requires-clause-size : goal.asks_for_more-requires-clause-size
asks_for_more-requires-clause-size c = read_is_short c.args.words.now c.in-Ok.request c.in-Ok.ensures
