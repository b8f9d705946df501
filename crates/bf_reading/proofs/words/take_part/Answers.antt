use Rattle.std.proofs.Common.{◌≡◌, get_or, arith}
use Rattle.std.proofs.lemmas.Bool.{eqb-true}
use Rattle.bf_reading.proofs.Splitting.{quote_in_front}
use Rattle.bf_reading.proofs.words.take_part.Goals as goal

pub returns-in-39-clause-words : goal.returns-in-39-clause-words
returns-in-39-clause-words c =
    let quote : get_or c.args.text.now 0 0 ≡ 39 = omega (arith, eqb-true) in
    rw (quote_in_front c.args.word.now c.args.text.now c.in-39.len_at_least quote) c.take_quoted.ensures.words

pub returns-in-39-clause-refused : goal.returns-in-39-clause-refused
returns-in-39-clause-refused c =
    let quote : get_or c.args.text.now 0 0 ≡ 39 = omega (arith, eqb-true) in
    rw (quote_in_front c.args.word.now c.args.text.now c.in-39.len_at_least quote) c.take_quoted.ensures.refused
