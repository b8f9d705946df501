use Rattle.std.proofs.Common.{refl, arith}
use Rattle.bf_stream.proofs.Filled.{Ends-place, Ends-beyond, one_taken, seen-place, seen-beyond}
use Rattle.bf_stream.proofs.window.Window.see_past.Goals as goal

pub returns-then-count-eq0-clause-filled : goal.returns-then-count-eq0-clause-filled
returns-then-count-eq0-clause-filled g c = record {
  held = refl;
  within = c.requires.within;
  ended = c.in_ok-count.ensures.bytes.1 c.if-count-eq0.true;
}

pub returns-then-count-eq0-clause-place : goal.returns-then-count-eq0-clause-place
returns-then-count-eq0-clause-place g c = Ends-place c.args.self.now _ _ _ refl (rw c.if-count-eq0.true at c.in_ok-count.ensures.bytes.0)

pub returns-then-count-eq0-clause-beyond : goal.returns-then-count-eq0-clause-beyond
returns-then-count-eq0-clause-beyond g c = Ends-beyond c.args.self.now _ _ _ refl (rw c.if-count-eq0.true at c.in_ok-count.ensures.bytes.0)

pub returns-clause-filled : goal.returns-clause-filled
returns-clause-filled g c = record { beyond = _; held = c.note_beyond.ensures; spent = c.requires.spent }

pub returns-clause-place : goal.returns-clause-place
returns-clause-place g c =
    seen-place c.args.self.now _ _ _ _ c.requires.within c.requires.spent c.note_beyond.ensures
    (one_taken _ _ c.in_ok-count.count c.read.new.buf (omega arith) c.if-count-eq0.false c.in_ok-count.ensures.bytes.0)

pub returns-clause-beyond : goal.returns-clause-beyond
returns-clause-beyond g c =
    seen-beyond c.args.self.now _ _ _ _ c.requires.nothing c.requires.spent c.note_beyond.ensures
    (one_taken _ _ c.in_ok-count.count c.read.new.buf (omega arith) c.if-count-eq0.false c.in_ok-count.ensures.bytes.0)
