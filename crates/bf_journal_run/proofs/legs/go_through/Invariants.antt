use Rattle.std.proofs.Common.{◌≡◌, ◌≤◌, true, false, [], List, Option, is_some}
use Rattle.bf_answers.specs.Devices.{KeepsManner}
use Rattle.bf_journal.specs.Journal.{Fits}
use Rattle.bf_journal_run.specs.Kept.{IsSameRun, IsToKeep, LeavesOn}
use Rattle.bf_journal_run.specs.Legs.{IsKeptRun}
use Rattle.bf_journal_run.proofs.Ending.{HasComeKept}
use Rattle.bf_journal_run.proofs.Recalled.{recall_by}
use Rattle.bf_output.specs.Beginning.{Begun}
use Rattle.bf_output.specs.Shown.{shown_by}
use Rattle.bf_runs.specs.Legs.{IsReady}
use Rattle.bf_search.specs.declared.outcomes.Outcome.{Outcome}
use Rattle.bf_words.specs.declared.request.Request.{Request}
use Rattle.bf_journal_run.proofs.legs.go_through.Given as goal

abbrev pub invariant-loop : goal.invariant-loop
invariant-loop g l = record {
  come : (request : Request) (opened : List (Option Outcome)) (first : Begun)
      → IsKeptRun l.fn.search request (shown_by (recall_by g.T.Tester) l.fn.tester) l.fn.tester.remembered opened first [] l.fn.journal.kept l.fn.running
      → HasComeKept (λ (table : List (Option Outcome)). LeavesOn g.J.Disk l.fn.disk l.disk l.fn.journal opened (IsToKeep table)) l.fn.search request (shown_by (recall_by g.T.Tester) l.tester) l.tester.remembered opened first (g.K.Sink.held l.fn.out)
      (g.K.Sink.held l.out) l.journal.kept l.running;
  ready : IsReady l.fn.search.history.now.parents l.fn.search.history.now.names (shown_by (recall_by g.T.Tester) l.tester).plan
      (shown_by (recall_by g.T.Tester) l.tester).answers l.running.standing.state l.running.standing.table;
  later : g.T.Tester.faults l.fn.tester.inner ≤ g.T.Tester.faults l.tester.inner;
  later_out : g.K.Sink.faults l.fn.out ≤ g.K.Sink.faults l.out;
  later_disk : g.J.Disk.faults l.fn.disk ≤ g.J.Disk.faults l.disk;
  manner : KeepsManner (recall_by g.T.Tester) l.fn.tester l.tester;
  is_split : g.T.Tester.is_split l.tester.inner ≡ false;
  run : IsSameRun l.fn.journal l.journal;
  sound : l.journal.is_sound ≡ true;
  fits : Fits g.J.Disk.told g.J.Disk.may_leave l.disk l.journal;
  told_disk : is_some (g.J.Disk.told l.disk) ≡ is_some (g.J.Disk.told l.fn.disk);
}
