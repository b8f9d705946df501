use Rattle.std.proofs.Common.{◌≡◌, ◌≤◌, ◌+◌, length, count_by}
use Rattle.bf_grammar.specs.Place.{is_end_of_line}
use Rattle.bf_stream.proofs.text.count_lines.Given as goal

abbrev pub invariant-parts : goal.invariant-parts
invariant-parts l = record {
  counted : l.lines + count_by is_end_of_line l.rest ≡ count_by is_end_of_line l.fn.bytes;
  within : l.lines + length l.rest ≤ length l.fn.bytes;
}

abbrev pub decreases-parts : goal.decreases-parts
decreases-parts l = length l.rest
