use Rattle.std.proofs.Common.{◌≡◌, false, take}
use Rattle.std.specs.List.{list_any}
use Rattle.bf_reading.specs.Answers.{is_special}
use Rattle.bf_reading.proofs.words.plain_len.Given as goal

abbrev pub invariant-loop-at : goal.invariant-loop-at
invariant-loop-at l = list_any is_special (take l.at l.text) ≡ false
