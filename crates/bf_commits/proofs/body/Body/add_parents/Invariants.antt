use Rattle.std.proofs.Common.{◌≡◌, ◌*◌, length, take}
use Rattle.bf_commits.specs.Naming.{Adds, parent_lines}
use Rattle.bf_commits.proofs.body.Body.add_parents.Given as goal

abbrev pub invariant-loop-place : goal.invariant-loop-place
invariant-loop-place l = record {
  lines : Adds l.fn.self l.self (parent_lines l.names (take l.place-index l.parents));
  length : length (parent_lines l.names (take l.place-index l.parents)) ≡ 48 * l.place-index;
}
