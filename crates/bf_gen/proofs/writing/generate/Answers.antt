use Rattle.std.proofs.Common.{◌≡◌, ◌-◌, ◌≤◌, ◌++◌, sym, ap, ◌∙◌, arith}
use Rattle.bf_gen.specs.Streams.{state_of}
use Rattle.bf_gen.specs.Steps.{states_on, commits_from}
use Rattle.bf_gen.proofs.Growing.{states_to, front_to, front_in, whole_to, nothing_yet, at_error}
use Rattle.bf_gen.proofs.writing.generate.Goals as goal

pub loop-done-init : goal.loop-done-init
loop-done-init g c = record {
  within = omega arith;
  state = c.first_state-state.ensures;
  written = nothing_yet (g.K.Sink.held c.args.sink.now) c.args.number;
  later = omega arith;
}

pub returns-in_err-state-clause-front : goal.returns-in_err-state-clause-front
returns-in_err-state-clause-front g c =
    at_error c.from_residual.result
    (front_to (g.K.Sink.held c.args.sink.now) (g.K.Sink.held c.loop-done.sink) c.args.number c.loop-done.done c.args.commits c.loop-done.invariant.within
    c.loop-done.invariant.written)

pub returns-in_err-write_whole-clause-front : goal.returns-in_err-write_whole-clause-front
returns-in_err-write_whole-clause-front g c =
    let done = c.loop-done.done in
    let end = c.min-end.result in
    let behind : done ≤ end = omega arith in
    let within : end ≤ c.args.commits = omega arith in
    let text : c.as_slice.result.now ≡ commits_from (state_of c.args.number done) done (end - done) =
    c.as_slice.ensures ∙ c.in_ok-state.ensures.text ∙ ap (λ l. l ++ commits_from c.loop-done.state done (end - done)) c.clear.ensures
    ∙ ap (λ s. commits_from s done (end - done)) c.loop-done.invariant.state in
    at_error c.from_residual-in_err-write_whole.result
    (front_in (g.K.Sink.held c.args.sink.now) (g.K.Sink.held c.loop-done.sink)
    (g.K.Sink.held c.write_whole.new.sink) c.args.number done end c.args.commits c.as_slice.result.now
    behind within c.loop-done.invariant.written text c.in_err-write_whole.ensures.front)

pub loop-done-preserved : goal.loop-done-preserved
loop-done-preserved g c =
    let done = c.loop-done.done in
    let end = c.min-end.result in
    let behind : done ≤ end = omega arith in
    let text : c.as_slice.result.now ≡ commits_from (state_of c.args.number done) done (end - done) =
    c.as_slice.ensures ∙ c.in_ok-state.ensures.text ∙ ap (λ l. l ++ commits_from c.loop-done.state done (end - done)) c.clear.ensures
    ∙ ap (λ s. commits_from s done (end - done)) c.loop-done.invariant.state in
    record {
      within = omega arith;
      state = c.in_ok-state.ensures.state ∙ ap (λ s. states_on s (end - done)) c.loop-done.invariant.state ∙ sym (states_to c.args.number done end behind);
      written = whole_to (g.K.Sink.held c.args.sink.now) (g.K.Sink.held c.loop-done.sink)
          (g.K.Sink.held c.write_whole.new.sink) c.args.number done end c.as_slice.result.now
          behind c.loop-done.invariant.written text c.in_ok-write_whole.ensures.whole;
      later = omega (arith, c.write_whole.ensures.cause.later);
    }
