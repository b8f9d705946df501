use Rattle.std.proofs.Common.{◌≡◌, ℕ, true, false, List, [], codes, Option, Some, sym, ap, ◌∙◌}
use Rattle.bf_reading.specs.Reading.{and_then, is_word, words_of, read_words}
use Rattle.bf_reading.specs.Answers.{with_word}
use Rattle.bf_reading.proofs.Starting.{no_first_word, starts, marks}
use Rattle.bf_reading.proofs.command.read_command.Goals as goal

pub returns-in_default-clause-refused : goal.returns-in_default-clause-refused
returns-in_default-clause-refused c =
    let words : words_of c.args.text.now ≡ Some [] = rw c.in_default.is at c.in_ok-word.ensures.words in
    ap (λ (o : Option (List (List ℕ))). and_then o read_words) words ∙ no_first_word

pub returns-then-is_word-clause-word : goal.returns-then-is_word-clause-word
returns-then-is_word-clause-word c =
    let words : words_of c.args.text.now ≡ with_word c.in-Some.word (words_of c.in-Some.rest.now) = rw c.in-Some.is at c.in_ok-word.ensures.words in
    let start : is_word (codes "start") c.in-Some.word ≡ true = ap (is_word (codes "start")) (sym c.as_slice.ensures) ∙ sym c.is_word.ensures ∙
    c.if-is_word.true in
    rw (words, starts c.in-Some.word (words_of c.in-Some.rest.now) start) c.read_start.ensures.word

pub returns-then-is_word-clause-refused : goal.returns-then-is_word-clause-refused
returns-then-is_word-clause-refused c =
    let words : words_of c.args.text.now ≡ with_word c.in-Some.word (words_of c.in-Some.rest.now) = rw c.in-Some.is at c.in_ok-word.ensures.words in
    let start : is_word (codes "start") c.in-Some.word ≡ true = ap (is_word (codes "start")) (sym c.as_slice.ensures) ∙ sym c.is_word.ensures ∙
    c.if-is_word.true in
    rw (words, starts c.in-Some.word (words_of c.in-Some.rest.now) start) c.read_start.ensures.refused

pub returns-else-is_word-clause-word : goal.returns-else-is_word-clause-word
returns-else-is_word-clause-word c =
    let words : words_of c.args.text.now ≡ with_word c.in-Some.word (words_of c.in-Some.rest.now) = rw c.in-Some.is at c.in_ok-word.ensures.words in
    let other : is_word (codes "start") c.in-Some.word ≡ false = ap (is_word (codes "start")) (sym c.as_slice.ensures) ∙ sym c.is_word.ensures ∙
    c.if-is_word.false in
    rw (words, marks c.in-Some.word (words_of c.in-Some.rest.now) other) c.read_mark.ensures.word

pub returns-else-is_word-clause-refused : goal.returns-else-is_word-clause-refused
returns-else-is_word-clause-refused c =
    let words : words_of c.args.text.now ≡ with_word c.in-Some.word (words_of c.in-Some.rest.now) = rw c.in-Some.is at c.in_ok-word.ensures.words in
    let other : is_word (codes "start") c.in-Some.word ≡ false = ap (is_word (codes "start")) (sym c.as_slice.ensures) ∙ sym c.is_word.ensures ∙
    c.if-is_word.false in
    rw (words, marks c.in-Some.word (words_of c.in-Some.rest.now) other) c.read_mark.ensures.refused
