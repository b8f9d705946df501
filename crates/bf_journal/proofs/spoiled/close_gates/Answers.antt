use Rattle.std.proofs.Common.{sym, ◌∙◌, ap, arith}
use Rattle.bf_journal.specs.Image.{is_spoiled}
use Rattle.bf_journal.proofs.Mending.{mending-write, never_both, reads-sound, reads-closed}
use Rattle.bf_journal.proofs.spoiled.close_gates.Goals as goal
use Rattle.bf_journal.proofs.spoiled.close_gates.Goals.{then-is_spoiled+in_ok-write_at, else-is_spoiled}

pub returns-in_err-write_at-clause-mending : goal.returns-in_err-write_at-clause-mending
returns-in_err-write_at-clause-mending g c =
    let told = g.D.Disk.told in
    let place = c.loop-place.place in
    mending-write g.D.Disk g.met.D.Disk.only_now c.args.len (told c.args.disk.now) place c.args.slots.now c.slot_start.result c.args.disk.now
    c.loop-place.disk c.write_at.new.self c.slot_start.ensures (omega arith) c.requires.slots
    (ap is_spoiled (sym c.slot_at.ensures) ∙ sym c.is_spoiled.ensures ∙ c.if-is_spoiled.true) c.loop-place.invariant.mending c.write_at.ensures.images c.write_at.ensures.time

pub loop-place-preserved : goal.loop-place-preserved
loop-place-preserved g c =
    let so_far = c.loop-place.invariant in
    let told = g.D.Disk.told in
    let place = c.loop-place.place in
    let same = ap is_spoiled (sym c.slot_at.ensures) ∙ sym c.is_spoiled.ensures in
    elim c.if-is_spoiled.branch [
      | then-is_spoiled+in_ok-write_at w ↦ record {
        reads = rw w.disk-is (reads-closed c.args.len place c.args.slots.now (omega arith) (told c.args.disk.now) (told c.loop-place.disk) (told w.write_at.new.self)
            w.slot_start.result w.slot_start.ensures c.requires.slots (same ∙ w.if-is_spoiled.true) so_far.reads w.in_ok-write_at.ensures.written);
        settled = λ none. absurd (never_both c.if-is_spoiled.any none w.any-is);
        told = rw w.disk-is (w.write_at.ensures.told ∙ so_far.told);
        mending = rw w.disk-is (mending-write g.D.Disk g.met.D.Disk.only_now c.args.len (told c.args.disk.now) place c.args.slots.now w.slot_start.result c.args.disk.now
            c.loop-place.disk w.write_at.new.self w.slot_start.ensures (omega arith) c.requires.slots (same ∙ w.if-is_spoiled.true) so_far.mending
            w.write_at.ensures.images w.write_at.ensures.time);
        later = rw w.disk-is (omega (arith, so_far.later, w.write_at.ensures.cause.later));
      }
      | else-is_spoiled w ↦ record {
        reads = rw w.disk-is (reads-sound c.args.len place c.args.slots.now (omega arith) (told c.args.disk.now) (told c.loop-place.disk) c.requires.slots
            (same ∙ w.if-is_spoiled.false) so_far.reads);
        settled = rw (w.disk-is, w.any-is) so_far.settled;
        told = rw w.disk-is so_far.told;
        mending = rw w.disk-is so_far.mending;
        later = rw w.disk-is so_far.later;
      }
    ]
