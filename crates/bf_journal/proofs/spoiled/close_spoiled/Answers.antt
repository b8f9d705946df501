use Rattle.bf_journal.proofs.Mending.{mending-moments, mending-sync}
use Rattle.bf_journal.proofs.spoiled.close_spoiled.Goals as goal

pub returns-in_err-close_gates-clause-any_moment : goal.returns-in_err-close_gates-clause-any_moment
returns-in_err-close_gates-clause-any_moment g c =
    mending-moments g.D.Disk g.met.D.Disk.only_now c.args.len (g.D.Disk.told c.args.disk.now) c.args.disk.now c.close_gates.new.disk c.close_gates.ensures.mending

pub returns-then-not-branch-clause-any_moment : goal.returns-then-not-branch-clause-any_moment
returns-then-not-branch-clause-any_moment g c =
    mending-moments g.D.Disk g.met.D.Disk.only_now c.args.len (g.D.Disk.told c.args.disk.now) c.args.disk.now c.close_gates.new.disk c.close_gates.ensures.mending

pub returns-clause-any_moment : goal.returns-clause-any_moment
returns-clause-any_moment g c =
    mending-sync g.D.Disk g.met.D.Disk.only_now c.args.len (g.D.Disk.told c.args.disk.now) c.args.disk.now c.close_gates.new.disk c.sync.new.self
    c.close_gates.ensures.mending c.sync.ensures.images c.sync.ensures.time
