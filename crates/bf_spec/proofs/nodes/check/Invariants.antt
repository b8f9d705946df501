use Rattle.std.proofs.Common.{◌≡◌, ℕ, ◌<◌, length}
use Rattle.std.specs.List.{slice_index_or}
use Rattle.bf_spec.specs.Links.{no_links, IsLinked}
use Rattle.bf_spec.proofs.nodes.check.Given as goal

-- the links up to here lead to nodes that follow
abbrev pub invariant-loop-i : goal.invariant-loop-i
invariant-loop-i l = record {
  len : length l.links ≡ l.i-end;
  done : (k : ℕ) → k < l.i → IsLinked l.nodes k (slice_index_or l.links k no_links);
}
