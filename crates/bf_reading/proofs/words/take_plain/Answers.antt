use Rattle.std.proofs.Common.{◌≡◌, false, ◌++◌, sym}
use Rattle.std.specs.List.{list_any}
use Rattle.std.proofs.lemmas.List.{take-append-drop}
use Rattle.bf_reading.specs.Answers.{is_special}
use Rattle.bf_reading.proofs.Splitting.{plain_in_front}
use Rattle.bf_reading.proofs.words.take_plain.Goals as goal

pub returns-clause-words : goal.returns-clause-words
returns-clause-words c =
    let is : c.args.text.now ≡ c.split_at.result.0.now ++ c.split_at.result.1.now = sym
    (rw (c.split_at.ensures.front, c.split_at.ensures.back) (take-append-drop c.plain_len.result c.args.text.now)) in
    let plain : list_any is_special c.split_at.result.0.now ≡ false = rw c.split_at.ensures.front c.plain_len.ensures.plain in
    plain_in_front c.args.word.now c.append.new.self c.args.text.now c.split_at.result.0.now c.split_at.result.1.now is plain c.in_ok-append.ensures.ok
