use Rattle.std.proofs.Common.{◌≡◌, ◌+◌, ◌≤◌, length}
use Rattle.bf_reading.specs.Reading.{lines_of, read_lines, read_log}
use Rattle.bf_reading.proofs.Numbered.{behind_lines}
use Rattle.bf_reading.proofs.read.read_log.Given as goal

-- the command lines so far, and those from here on
abbrev pub invariant-loop-text : goal.invariant-loop-text
invariant-loop-text l = record {
  read : read_log l.bytes ≡ behind_lines l.lines (read_lines (l.line + 1) (lines_of l.rest));
  number : l.line + length l.rest ≤ length l.bytes;
}

abbrev pub decreases-loop-text : goal.decreases-loop-text
decreases-loop-text l = length l.rest
