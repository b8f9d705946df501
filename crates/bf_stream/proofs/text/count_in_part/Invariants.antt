use Rattle.std.proofs.Common.{◌≡◌, take, count_by}
use Rattle.bf_grammar.specs.Place.{is_end_of_line}
use Rattle.bf_stream.proofs.text.count_in_part.Given as goal

abbrev pub invariant-loop-byte : goal.invariant-loop-byte
invariant-loop-byte l = l.lines ≡ count_by is_end_of_line (take l.byte-index l.part)
