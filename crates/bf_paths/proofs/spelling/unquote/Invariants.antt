use Rattle.std.proofs.Common.{◌≡◌, ◌≤◌, ◌-◌, length, drop}
use Rattle.bf_paths.specs.Quoting.{unquoted}
use Rattle.bf_paths.proofs.Reading.{followed_by}
use Rattle.bf_paths.proofs.spelling.unquote.Given as goal

abbrev pub invariant-loop-at : goal.invariant-loop-at
invariant-loop-at l = record {
  within : l.at ≤ length l.text;
  so_far : followed_by l.bytes (unquoted (drop l.at l.text) 0) ≡ unquoted l.text 0;
}

abbrev pub decreases-loop-at : goal.decreases-loop-at
decreases-loop-at l = length l.text - l.at
