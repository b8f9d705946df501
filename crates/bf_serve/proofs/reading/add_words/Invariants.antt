use Rattle.std.proofs.Common.{◌≡◌, ◌++◌, take}
use Rattle.bf_serve.proofs.reading.add_words.Given as goal

abbrev pub invariant-loop-word : goal.invariant-loop-word
invariant-loop-word l = l.all.items ≡ l.fn.all.items ++ take l.word-index l.words
