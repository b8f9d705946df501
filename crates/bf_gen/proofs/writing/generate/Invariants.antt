use Rattle.std.proofs.Common.{◌≡◌, ◌-◌, ◌≤◌}
use Rattle.bf_io.specs.Told.{Appends}
use Rattle.bf_gen.specs.Streams.{state_of, stream}
use Rattle.bf_gen.proofs.writing.generate.Given as goal

abbrev pub invariant-loop-done : goal.invariant-loop-done
invariant-loop-done g l = record {
  within : l.done ≤ l.commits;
  state : l.state ≡ state_of l.number l.done;
  written : Appends (g.K.Sink.held l.fn.sink) (g.K.Sink.held l.sink) (stream l.number l.done);
  later : g.K.Sink.faults l.fn.sink ≤ g.K.Sink.faults l.sink;
}

abbrev pub decreases-loop-done : goal.decreases-loop-done
decreases-loop-done g l = l.commits - l.done
