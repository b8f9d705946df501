use Rattle.std.proofs.Common.{◌==◌, ◌+◌, ◌-◌, length, take, drop}
use Rattle.bf_reading.proofs.Splitting.{quoted_in_front, open_quote}
use Rattle.bf_reading.proofs.Cutting.{cut_at, none_before, none_at_all}
use Rattle.bf_reading.proofs.words.take_quoted.Goals as goal

pub returns-in_ok-append-in-Some-clause-words : goal.returns-in_ok-append-in-Some-clause-words
returns-in_ok-append-in-Some-clause-words c =
    quoted_in_front c.args.word.now c.append.new.self c.args.text.now (take c.in-Some.end c.args.text.now)
    (take (length c.args.text.now - (c.in-Some.end + 1)) (drop (c.in-Some.end + 1) c.args.text.now))
    (cut_at 39 c.args.text.now c.in-Some.end c.in-Some.ensures) (none_before (λ b. b == 39) c.args.text.now c.in-Some.end c.in-Some.ensures)
    c.in_ok-append-in-Some.ensures.ok

pub returns-in-None-clause-refused : goal.returns-in-None-clause-refused
returns-in-None-clause-refused c = open_quote c.args.word.now c.args.text.now (none_at_all (λ b. b == 39) c.args.text.now c.in-None.ensures)
