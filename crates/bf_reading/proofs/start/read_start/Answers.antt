use Rattle.std.proofs.Common.{◌≡◌, ℕ, List, [], Option, Some, ap, ◌∙◌}
use Rattle.std.proofs.lemmas.Result.{err_from_is_err_and}
use Rattle.bf_reading.specs.Reading.{and_then, words_of, read_start}
use Rattle.bf_reading.specs.Answers.{with_word}
use Rattle.bf_reading.proofs.Starting.{word_taken, word_refused, no_word_left}
use Rattle.bf_reading.proofs.start.read_start.Goals as goal

pub returns-in_err-take_word-clause-refused : goal.returns-in_err-take_word-clause-refused
returns-in_err-take_word-clause-refused c =
    let p = err_from_is_err_and c.from_residual-in_err-take_word.result c.from_residual-in_err-take_word.ensures.1 in
    let words : words_of c.loop-start.rest.now ≡ with_word c.in-Some.word (words_of c.in-Some.after.now) = rw c.in-Some.is at c.in_ok-word.ensures.words in
    rw (p.1, p.2, c.loop-start.invariant, words) (word_refused c.in_err-take_word.field-0.0 (words_of c.in-Some.after.now) c.loop-start.start c.in-Some.word
    c.in_err-take_word.ensures.refused)

pub loop-start-preserved : goal.loop-start-preserved
loop-start-preserved c =
    let words : words_of c.loop-start.rest.now ≡ with_word c.in-Some.word (words_of c.in-Some.after.now) = rw c.in-Some.is at c.in_ok-word.ensures.words in
    c.loop-start.invariant
    ∙ ap (λ (o : Option (List (List ℕ))). and_then o (read_start c.loop-start.start)) words
    ∙ word_taken (words_of c.in-Some.after.now) c.loop-start.start c.take_word.new.self c.in-Some.word c.in_ok-take_word.ensures.taken

pub returns-clause-word : goal.returns-clause-word
returns-clause-word c =
    let words : words_of c.loop-start.rest.now ≡ Some [] = rw c.in_default.is at c.in_ok-word.ensures.words in
    rw (c.loop-start.invariant, words, no_word_left) c.finish.ensures.word

pub returns-clause-refused : goal.returns-clause-refused
returns-clause-refused c =
    let words : words_of c.loop-start.rest.now ≡ Some [] = rw c.in_default.is at c.in_ok-word.ensures.words in
    rw (c.loop-start.invariant, words, no_word_left) c.finish.ensures.refused
