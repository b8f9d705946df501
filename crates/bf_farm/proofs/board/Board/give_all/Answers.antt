use Rattle.bf_farm.proofs.History.{done_where, gives_more, fewer_given}
use Rattle.bf_farm.proofs.board.Board.give_all.Goals as goal

pub loop-claim-smaller : goal.loop-claim-smaller
loop-claim-smaller c =
    fewer_given c.loop-claim.self c.give.new.self c.in-Some.claim.worker c.in-Some.claim.place
    (done_where _ c.loop-claim.self c.give.new.self _ c.give.ensures c.in-Some.ensures.some) c.in-Some.ensures.some

pub loop-claim-preserved : goal.loop-claim-preserved
loop-claim-preserved c =
    gives_more _ c.loop-claim.self c.give.new.self c.in-Some.claim.worker c.in-Some.claim.place c.first_claim.ensures.led c.in-Some.ensures.some
    c.loop-claim.invariant
    (done_where _ c.loop-claim.self c.give.new.self _ c.give.ensures c.in-Some.ensures.some)
