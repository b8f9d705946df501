use Rattle.std.proofs.Common.{◌≡◌, ◌≤◌, true, is_some}
use Rattle.bf_journal.specs.Journal.{Fits}
use Rattle.bf_journal_run.specs.Kept.{IsSameRun, IsToKeep, LeavesOn}
use Rattle.bf_journal_run.proofs.Keeping.{IsKeptTo}
use Rattle.bf_journal_run.proofs.keep.keep_table.Given as goal

abbrev pub invariant-loop-place : goal.invariant-loop-place
invariant-loop-place g l = record {
  to : IsKeptTo l.place l.fn.journal.kept l.fn.table l.journal.kept;
  run : IsSameRun l.fn.journal l.journal;
  sound : l.journal.is_sound ≡ true;
  fits : Fits g.J.Disk.told g.J.Disk.may_leave l.disk l.journal;
  told : is_some (g.J.Disk.told l.disk) ≡ is_some (g.J.Disk.told l.fn.disk);
  any_moment : LeavesOn g.J.Disk l.fn.disk l.disk l.fn.journal l.fn.journal.kept (IsToKeep l.fn.table);
  later : g.J.Disk.faults l.fn.disk ≤ g.J.Disk.faults l.disk;
}
