use Rattle.std.proofs.Common.{Option, drop, ap, ◌∙◌}
use Rattle.std.proofs.lemmas.Result.{err_from_is_err_and}
use Rattle.bf_log.specs.Replay.{replay_from}
use Rattle.bf_replay.specs.declared.fold.Replayed.{Replayed}
use Rattle.bf_replay.specs.Meaning.{setting_of, replayed_of, replayed_before}
use Rattle.bf_replay.proofs.Folding.{line_taken, line_refused, all_taken, none_started}
use Rattle.bf_replay.proofs.fold.replay_by.Goals as goal

pub returns-in_err-take_line-clause-refused : goal.returns-in_err-take_line-clause-refused
returns-in_err-take_line-clause-refused c =
    let p = err_from_is_err_and c.from_residual.result c.from_residual.ensures.1 in
    rw (p.1, p.2, c.loop-line.invariant.goes_on)
    (line_refused (setting_of c.args.history.now) c.args.lines.now c.loop-line.line-index c.line-item.result
    (replayed_before c.loop-line.replayed)
    c.loop-line-test.true c.line-item.is c.in_err-take_line.field-0.0 c.in_err-take_line.ensures.refused)

pub loop-line-preserved : goal.loop-line-preserved
loop-line-preserved c = record {
  goes_on = c.loop-line.invariant.goes_on
      ∙ line_taken (setting_of c.args.history.now) c.args.lines.now c.loop-line.line-index c.line-item.result
      (replayed_before c.loop-line.replayed)
      c.loop-line-test.true c.line-item.is (replayed_of c.in_ok-take_line.field-0) c.in_ok-take_line.ensures.replayed;
  len = c.in_ok-take_line.ensures.len;
  within = c.in_ok-take_line.ensures.within;
}

pub returns-in-Some-clause-replayed : goal.returns-in-Some-clause-replayed
returns-in-Some-clause-replayed c =
    c.loop-line.invariant.goes_on
    ∙ ap (λ (r : Option Replayed). replay_from (setting_of c.args.history.now) (replayed_before r)
    (drop c.loop-line.line-index c.args.lines.now)) c.in-Some.is
    ∙ all_taken (setting_of c.args.history.now) c.args.lines.now c.loop-line.line-index
    (replayed_of c.in-Some.replayed) c.loop-line-test.false

pub returns-in-None-clause-refused : goal.returns-in-None-clause-refused
returns-in-None-clause-refused c =
    c.loop-line.invariant.goes_on
    ∙ ap (λ (r : Option Replayed). replay_from (setting_of c.args.history.now) (replayed_before r)
    (drop c.loop-line.line-index c.args.lines.now)) c.in-None.is
    ∙ none_started (setting_of c.args.history.now) c.args.lines.now c.loop-line.line-index c.loop-line-test.false
