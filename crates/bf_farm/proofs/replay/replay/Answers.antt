use Rattle.std.proofs.Common.{◌∙◌}
use Rattle.bf_search.specs.declared.farm.Event.{Event}
use Rattle.bf_search.specs.declared.farm.Event.TheVariants as events
use Rattle.bf_farm.specs.Sound.{IsSoundEvent}
use Rattle.bf_farm.proofs.History.{done_where}
use Rattle.bf_farm.proofs.Redone.{one_redone, of_fewer, of_this}
use Rattle.bf_farm.proofs.Soundness.{sound_if, start_then, len_if}
use Rattle.bf_farm.proofs.replay.replay.Goals as goal

pub loop-event-preserved : goal.loop-event-preserved
loop-event-preserved c =
    let within = c.loop-event-test.true in
    let does = done_where c.in_ok-redo.field-0 c.loop-event.board c.redo.new.self _ c.in_ok-redo.ensures.done c.if-not-branch.false in
    record {
      start = start_then c.args.board.now c.loop-event.board c.redo.new.self c.loop-event.invariant.start does.start;
      first = does.first ∙ c.loop-event.invariant.first;
      len = len_if c.in_ok-redo.field-0 c.loop-event.board c.redo.new.self _ c.in_ok-redo.ensures.done ∙ c.loop-event.invariant.len;
      sound = λ told names answers all before.
          sound_if told names answers c.in_ok-redo.field-0 c.loop-event.board c.redo.new.self _ c.in_ok-redo.ensures.done
          (of_this (λ (e : Event). IsSoundEvent told names answers e) c.args.events.now c.loop-event.event-index _ within all)
          (c.loop-event.invariant.sound told names answers
          (of_fewer (λ (e : Event). IsSoundEvent told names answers e) c.args.events.now c.loop-event.event-index (events.Claim 0 0) within all) before);
      done = one_redone c.args.board.now c.loop-event.board c.redo.new.self c.args.events.now c.loop-event.event-index _ within does
          c.loop-event.invariant.done;
    }
