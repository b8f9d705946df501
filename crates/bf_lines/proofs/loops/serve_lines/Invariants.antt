use Rattle.std.proofs.Common.{◌≤◌}
use Rattle.bf_lines.specs.Lines.{told}
use Rattle.bf_lines.specs.Serving.{IsServed}
use Rattle.bf_lines.proofs.loops.serve_lines.Given as goal

abbrev pub invariant-requests : goal.invariant-requests
invariant-requests g l = record {
  served : IsServed g.A.Answers.says (told l.fn.held (g.S.Source.left l.fn.source)) (told l.lines (g.S.Source.left l.source)) (l.fn.answers, l.fn.beside) (l.answers, l.beside)
      (g.K.Sink.held l.fn.sink) (g.K.Sink.held l.sink);
  ready : g.A.Answers.is_ready l.answers;
  read : g.S.Source.faults l.fn.source ≤ g.S.Source.faults l.source;
  wrote : g.K.Sink.faults l.fn.sink ≤ g.K.Sink.faults l.sink;
  beside : g.A.Answers.faults l.fn.beside ≤ g.A.Answers.faults l.beside;
}
