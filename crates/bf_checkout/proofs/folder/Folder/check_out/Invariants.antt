use Rattle.std.proofs.Common.{◌≡◌, ◌≤◌, take, is_some}
use Rattle.bf_checkout.specs.Checkouts.{checked_out}
use Rattle.bf_checkout.specs.Folders.{Holds}
use Rattle.bf_checkout.proofs.folder.Folder.check_out.Given as goal

-- the files so far are checked out
abbrev pub invariant-loop-file : goal.invariant-loop-file
invariant-loop-file g l = record {
  holds : Holds (g.Self.Folder.files l.self) (checked_out l.content.blobs (take l.file-index l.file-items));
  called : g.Self.Folder.called l.self ≡ g.Self.Folder.called l.fn.self;
  moves : g.Self.Folder.moves l.self ≡ g.Self.Folder.moves l.fn.self;
  told : is_some (g.Self.Folder.files l.self) ≡ is_some (g.Self.Folder.files l.fn.self);
  later : g.Self.Folder.faults l.fn.self ≤ g.Self.Folder.faults l.self;
}
