use Rattle.bf_farm.proofs.Asked.{next_some, next_none, noted_some, noted_none, pick_keeps}
use Rattle.bf_farm.proofs.alone.next_place.Goals as goal

pub returns-in-Some-clause-next : goal.returns-in-Some-clause-next
returns-in-Some-clause-next c =
    next_some c.args.board.now c.pick.new.self _ c.in-Some.claim.worker c.in-Some.claim.place c.requires c.in_ok-pick.ensures.pick
    c.in-Some.ensures.some c.in-Some.ensures.within

pub returns-in-Some-clause-sound : goal.returns-in-Some-clause-sound
returns-in-Some-clause-sound c = (pick_keeps c.args.board.now c.pick.new.self _ c.requires c.in_ok-pick.ensures.pick).sound

pub returns-in-Some-clause-noted : goal.returns-in-Some-clause-noted
returns-in-Some-clause-noted c =
    noted_some c.args.board.now c.pick.new.self _ c.in-Some.claim.worker c.in-Some.claim.place c.requires c.in_ok-pick.ensures.pick c.in-Some.ensures.some

pub returns-in-None-clause-noted : goal.returns-in-None-clause-noted
returns-in-None-clause-noted c = noted_none c.args.board.now c.pick.new.self _ c.requires c.in_ok-pick.ensures.pick c.in-None.ensures.none

pub returns-in-None-clause-next : goal.returns-in-None-clause-next
returns-in-None-clause-next c = next_none c.args.board.now c.pick.new.self _ c.requires c.in_ok-pick.ensures.pick c.in-None.ensures.none
