use Rattle.std.proofs.Common.{◌≡◌, true, length, sym, ap, ◌∙◌, arith, rules}
use Rattle.bf_reading.specs.Reading.{words_of}
use Rattle.bf_reading.specs.Answers.{begins_word, words_inside}
use Rattle.bf_reading.proofs.Splitting.{no_word, begins_behind_blanks, blanks_shorten, words_behind_blanks}
use Rattle.bf_reading.proofs.words.next_word.Goals as goal

pub returns-then-is_empty-clause-words : goal.returns-then-is_empty-clause-words
returns-then-is_empty-clause-words c = no_word c.args.text.now c.past_blanks-text.result.now c.past_blanks-text.ensures
    (sym c.is_empty.ensures ∙ c.if-is_empty.true)

pub take_word-requires : goal.take_word-requires
take_word-requires c = begins_behind_blanks c.args.text.now c.past_blanks-text.result.now c.past_blanks-text.ensures
    (sym c.is_empty.ensures ∙ c.if-is_empty.false)

pub returns-in_err-rest-clause-refused : goal.returns-in_err-rest-clause-refused
returns-in_err-rest-clause-refused c =
    let begins : begins_word c.past_blanks-text.result.now ≡ true = begins_behind_blanks c.args.text.now c.past_blanks-text.result.now
    c.past_blanks-text.ensures (sym c.is_empty.ensures ∙ c.if-is_empty.false) in
    let inside : words_of c.args.text.now ≡ words_inside c.new-word.result c.past_blanks-text.result.now = words_behind_blanks c.args.text.now
    c.past_blanks-text.result.now c.past_blanks-text.ensures begins ∙ ap (λ w. words_inside w c.past_blanks-text.result.now) (sym c.new-word.ensures) in
    rw inside (search rules)

pub returns-clause-words : goal.returns-clause-words
returns-clause-words c =
    let begins : begins_word c.past_blanks-text.result.now ≡ true = begins_behind_blanks c.args.text.now c.past_blanks-text.result.now
    c.past_blanks-text.ensures (sym c.is_empty.ensures ∙ c.if-is_empty.false) in
    words_behind_blanks c.args.text.now c.past_blanks-text.result.now c.past_blanks-text.ensures begins
    ∙ ap (λ w. words_inside w c.past_blanks-text.result.now) (sym c.new-word.ensures)
    ∙ c.in_ok-rest.ensures.words

pub returns-clause-shorter : goal.returns-clause-shorter
returns-clause-shorter c = omega (arith, blanks_shorten c.args.text.now, ap length c.past_blanks-text.ensures, c.in_ok-rest.ensures.shorter)
