use Rattle.std.proofs.Common.{◌≡◌, take}
use Rattle.bf_tester.proofs.words.Words.copy_of.Given as goal

abbrev pub invariant-loop-word : goal.invariant-loop-word
invariant-loop-word l = l.copies.items ≡ take l.word-index l.words
