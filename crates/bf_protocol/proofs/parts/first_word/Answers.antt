use Rattle.std.proofs.Common.{◌==◌, ◌+◌, ◌-◌, length, take, drop, ap, ◌∙◌}
use Rattle.bf_protocol.specs.Requests.{parted}
use Rattle.bf_reading.proofs.Cutting.{cut_at, none_before, none_at_all}
use Rattle.bf_protocol.proofs.Parting.{only_word, word_in_front}
use Rattle.bf_protocol.proofs.parts.first_word.Goals as goal

pub returns-in-Some-clause-word : goal.returns-in-Some-clause-word
returns-in-Some-clause-word c =
    ap parted (cut_at 32 c.args.text.now c.in-Some.end c.in-Some.ensures)
    ∙ word_in_front (take c.in-Some.end c.args.text.now) (take (length c.args.text.now - (c.in-Some.end + 1)) (drop (c.in-Some.end + 1) c.args.text.now))
    (none_before (λ b. b == 32) c.args.text.now c.in-Some.end c.in-Some.ensures)

pub returns-in-None-clause-word : goal.returns-in-None-clause-word
returns-in-None-clause-word c = only_word c.args.text.now (none_at_all (λ b. b == 32) c.args.text.now c.in-None.ensures)
