use Rattle.std.proofs.Common.{List, subst, refl}
use Rattle.std.proofs.lemmas.List.{take_all}
use Rattle.std.proofs.lemmas.List.Elements.{All-more}
use Rattle.bf_search.specs.declared.farm.Event.{Event}
use Rattle.bf_farm.specs.Doers.{AreDoneBy, IsOneOf, worker_of}
use Rattle.bf_farm.proofs.replay.are_done_by.Goals as goal

pub loop-event-preserved : goal.loop-event-preserved
loop-event-preserved c =
    All-more (λ (e : Event). IsOneOf c.args.workers (worker_of e)) c.args.events.now c.loop-event.event-index _ c.loop-event-test.true
    c.loop-event.invariant (c.if-not-is_by_one_of.ensures.0 refl)

pub returns : goal.returns
returns c = λ yes.
    subst (λ (es : List Event). AreDoneBy c.args.workers es) (take_all c.loop-event.event-index c.args.events.now c.loop-event-test.false)
    c.loop-event.invariant
