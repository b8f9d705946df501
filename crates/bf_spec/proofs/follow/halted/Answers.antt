use Rattle.std.proofs.Common.{subst}
use Rattle.bf_spec.specs.declared.follow.Halt.{Halt}
use Rattle.bf_spec.specs.Walks.{HaltsAt}
use Rattle.bf_spec.proofs.Halting.{if_ok, waits_walked, aborted_walked, answered_walked, over_walked, over_within}
use Rattle.bf_spec.proofs.follow.halted.Goals as goal

pub over_at-requires : goal.over_at-requires
over_at-requires c =
    over_within c.requires.places.0 c.args.nodes.now c.requires.halts.0 c.args.entries.items c.in-Over.index c.in-Over.next
    c.in-Over.place c.in-Over.mark c.index-nodes-index-in-Over.result c.requires.places.1 c.index-nodes-index-in-Over.is
    (subst (λ (h : Halt). HaltsAt c.args.nodes.now c.args.entries.items h c.requires.halts.0) c.in-Over.is c.requires.halts.1)

pub returns-in_ok-ending-in-Answered : goal.returns-in_ok-ending-in-Answered
returns-in_ok-ending-in-Answered c = if_ok c.ended_at.result c.ended_at.ensures (λ walked is graph session root run t halts.
    answered_walked graph session root c.args.nodes.now run walked t c.in-Answered.index c.index-nodes-index.result c.index-nodes-index-in-Answered.result
    c.args.entries.items c.answer.new.entries.items c.in_ok-ending-in-Answered.ending c.index-nodes-index-in-Answered.is
    (subst (λ (h : Halt). HaltsAt c.args.nodes.now c.args.entries.items h run) c.in-Answered.is halts)
    c.in_ok-ending-in-Answered.ensures.entries c.in_ok-ending-in-Answered.ensures.ending is)

pub returns-in-Waits : goal.returns-in-Waits
returns-in-Waits c = if_ok c.ended_at-in-Waits.result c.ended_at-in-Waits.ensures (λ walked is graph session root run t halts.
    waits_walked graph session root c.args.nodes.now run walked t c.in-Waits.index c.index-nodes-index-in-Waits.result c.args.entries.items
    c.index-nodes-index-in-Waits.is
    (subst (λ (h : Halt). HaltsAt c.args.nodes.now c.args.entries.items h run) c.in-Waits.is halts) is)

pub returns-in-Aborted : goal.returns-in-Aborted
returns-in-Aborted c = if_ok c.ended_at-in-Aborted.result c.ended_at-in-Aborted.ensures (λ walked is graph session root run t halts.
    aborted_walked graph session root c.args.nodes.now run walked t c.in-Aborted.index c.in-Aborted.place c.in-Aborted.outcome
    c.index-nodes-index-in-Aborted.result c.args.entries.items c.index-nodes-index-in-Aborted.is
    (subst (λ (h : Halt). HaltsAt c.args.nodes.now c.args.entries.items h run) c.in-Aborted.is halts) is)

pub returns-in-Over : goal.returns-in-Over
returns-in-Over c = if_ok c.over_at.result c.over_at.ensures (λ walked is graph session root run t halts.
    over_walked graph session root c.args.nodes.now run walked t c.in-Over.index c.in-Over.next c.in-Over.place c.in-Over.mark
    c.index-nodes-index-in-Over.result c.index-nodes-next.result c.args.entries.items c.index-nodes-index-in-Over.is c.index-nodes-next.is
    (subst (λ (h : Halt). HaltsAt c.args.nodes.now c.args.entries.items h run) c.in-Over.is halts) is)
