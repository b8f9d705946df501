use Rattle.std.proofs.Common.{◌≡◌, ◌+◌, ◌≤◌, ◌++◌, length, map}
use Rattle.std.specs.List.{All}
use Rattle.bf_commands.specs.Many.{refused_from, searches_of}
use Rattle.bf_many_run.specs.Lists.{IsAskedBy, words_in}
use Rattle.bf_many_run.proofs.list.read_list.Given as goal

-- the searches so far, and the lines from here on
abbrev pub invariant-loop-line : goal.invariant-loop-line
invariant-loop-line l = record {
  words : searches_of l.text ≡ map words_in l.lines.items ++ searches_of l.rest;
  asked : All IsAskedBy l.lines.items;
  few : length l.lines.items ≤ 64;
  right : refused_from 1 (searches_of l.text) ≡ refused_from (length l.lines.items + 1) (searches_of l.rest);
}

abbrev pub decreases-loop-line : goal.decreases-loop-line
decreases-loop-line l = length l.rest
