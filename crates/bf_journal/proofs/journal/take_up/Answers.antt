use Rattle.bf_journal.proofs.Mending.{taken_up, taken_kept, taken_fits}
use Rattle.bf_journal.proofs.journal.take_up.Goals as goal

pub returns-in_err-close_spoiled-clause-any_moment : goal.returns-in_err-close_spoiled-clause-any_moment
returns-in_err-close_spoiled-clause-any_moment g c =
    let disk = g.D.Disk in
    taken_up c.args.identity c.args.len c.args.slots.now disk.moment disk.left_since (disk.told c.args.disk.now) c.args.disk.now c.close_spoiled.new.disk
    c.requires.own c.requires.slots c.close_spoiled.ensures.any_moment

pub returns-clause-any_moment : goal.returns-clause-any_moment
returns-clause-any_moment g c =
    let disk = g.D.Disk in
    taken_up c.args.identity c.args.len c.args.slots.now disk.moment disk.left_since (disk.told c.args.disk.now) c.args.disk.now c.close_spoiled.new.disk
    c.requires.own c.requires.slots c.close_spoiled.ensures.any_moment

pub returns-clause-kept : goal.returns-clause-kept
returns-clause-kept g c =
    taken_kept c.args.identity c.args.len c.args.slots.now c.in_ok-kept.kept.items c.in_ok-kept.ensures.table (g.D.Disk.told c.args.disk.now) c.requires.own c.requires.slots

pub returns-clause-fits : goal.returns-clause-fits
returns-clause-fits g c =
    let disk = g.D.Disk in
    record {
      settled = c.in_ok-close_spoiled.ensures.settled;
      bytes = taken_fits c.args.identity c.args.len c.args.slots.now c.in_ok-kept.kept.items c.in_ok-kept.ensures.table (disk.told c.args.disk.now)
          (disk.told c.close_spoiled.new.disk) c.close_spoiled.ensures.told c.requires.own c.requires.slots c.in_ok-close_spoiled.ensures.reads;
    }
