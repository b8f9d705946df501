use Rattle.std.proofs.Common.{◌≡◌, ◌++◌, take}
use Rattle.std.specs.List.{flat_map}
use Rattle.bf_log.specs.Labels.{commits_of}
use Rattle.bf_log.specs.StateLines.{name_line}
use Rattle.bf_log.proofs.state.put_named.Given as goal

abbrev pub invariant-loop-place : goal.invariant-loop-place
invariant-loop-place l = l.out ≡ l.fn.out ++ flat_map (name_line (commits_of l.commits) l.word) (take l.place-index l.places)
