use Rattle.std.proofs.Common.{codes}
use Rattle.bf_reading.specs.Reading.{behind_either}
use Rattle.bf_reading.proofs.Starting.{new_taken, old_taken}
use Rattle.bf_reading.proofs.start.StartLine.take_value.Goals as goal

pub returns-in_ok-from_slice-clause-taken : goal.returns-in_ok-from_slice-clause-taken
returns-in_ok-from_slice-clause-taken c =
    new_taken c.args.self.now c.set_new.new.self
    (behind_either (codes "--term-new=") (codes "--term-bad=") c.args.word.now) (behind_either (codes "--term-old=") (codes "--term-good=") c.args.word.now)
    c.in-Some.new.now c.in_ok-from_slice.field-0 c.in-Some.ensures c.set_new.ensures c.in_ok-from_slice.ensures

pub returns-in_ok-from_slice-2-clause-taken : goal.returns-in_ok-from_slice-2-clause-taken
returns-in_ok-from_slice-2-clause-taken c =
    old_taken c.args.self.now c.set_old.new.self
    (behind_either (codes "--term-new=") (codes "--term-bad=") c.args.word.now) (behind_either (codes "--term-old=") (codes "--term-good=") c.args.word.now)
    c.in-Some-behind_either.old.now c.in_ok-from_slice-2.field-0 c.in_default.ensures c.in-Some-behind_either.ensures c.set_old.ensures
    c.in_ok-from_slice-2.ensures
