use Rattle.std.proofs.Common.{◌==◌, ◌+◌, ◌-◌, length, take, drop, sym, ap, ◌∙◌}
use Rattle.bf_reading.specs.Reading.{lines_of}
use Rattle.bf_reading.proofs.Cutting.{cut_at, none_before, none_at_all}
use Rattle.bf_reading.proofs.Numbered.{line_in_front, only_line}
use Rattle.bf_protocol.proofs.parts.first_line.Goals as goal

pub returns-in-Some-clause-line : goal.returns-in-Some-clause-line
returns-in-Some-clause-line c =
    ap lines_of (cut_at 10 c.args.text.now c.in-Some.end c.in-Some.ensures)
    ∙ line_in_front (take c.in-Some.end c.args.text.now) (take (length c.args.text.now - (c.in-Some.end + 1)) (drop (c.in-Some.end + 1) c.args.text.now))
    (none_before (λ b. b == 10) c.args.text.now c.in-Some.end c.in-Some.ensures)

pub returns-in-None-clause-line : goal.returns-in-None-clause-line
returns-in-None-clause-line c = only_line c.args.text.now (sym c.is_empty.ensures ∙ c.if-is_empty.false)
    (none_at_all (λ b. b == 10) c.args.text.now c.in-None.ensures)
