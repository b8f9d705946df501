use Rattle.std.proofs.Common.{List, ℕ, ◌++◌, ap, sym, ◌∙◌}
use Rattle.std.proofs.lemmas.List.{append-nil}
use Rattle.bf_reading.specs.Reading.{lines_of}
use Rattle.bf_protocol.specs.Events.{numbered_lines}
use Rattle.bf_protocol.proofs.lines.put_lines.Goals as goal

pub returns : goal.returns
unfolding lines_of
returns c =
    sym (append-nil c.loop-line.out)
    ∙ ap (λ (t : List ℕ). c.loop-line.out ++ numbered_lines c.args.word.now c.args.number t) (sym c.in_default.ensures.line)
    ∙ sym c.loop-line.invariant
