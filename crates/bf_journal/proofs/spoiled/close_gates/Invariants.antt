use Rattle.std.proofs.Common.{◌≡◌, ◌≤◌, false, IfSome, is_some}
use Rattle.bf_journal.specs.Journal.{IsMending, IsSettled, ReadsMended}
use Rattle.bf_journal.proofs.spoiled.close_gates.Given as goal

abbrev pub invariant-loop-place : goal.invariant-loop-place
invariant-loop-place g l = record {
  reads : IfSome (g.D.Disk.told l.fn.disk) (ReadsMended l.len l.place (g.D.Disk.told l.disk));
  settled : l.any ≡ false → IsSettled g.D.Disk.told g.D.Disk.may_leave l.disk;
  told : is_some (g.D.Disk.told l.disk) ≡ is_some (g.D.Disk.told l.fn.disk);
  mending : IfSome (g.D.Disk.told l.fn.disk) (IsMending g.D.Disk l.len l.fn.disk l.disk);
  later : g.D.Disk.faults l.fn.disk ≤ g.D.Disk.faults l.disk;
}
