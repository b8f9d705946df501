use Rattle.std.proofs.Common.{◌≡◌, ◌<◌, length}
use Rattle.bf_reading.specs.Answers.{words_inside}
use Rattle.bf_reading.proofs.words.take_word.Given as goal

-- the words from here on are those of the text
abbrev pub invariant-loop-rest : goal.invariant-loop-rest
invariant-loop-rest l = record { words : words_inside l.fn.word l.text ≡ words_inside l.word l.rest; shorter : length l.rest < length l.text }

abbrev pub decreases-loop-rest : goal.decreases-loop-rest
decreases-loop-rest l = length l.rest
